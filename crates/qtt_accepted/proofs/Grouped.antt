-- Names that come one after another, each of them new: no two are the same.
use Rattle.std.proofs.Common.{◌≡◌, ℕ, Bool, true, false, ◌||◌, not, List, [], ◌∷◌, ◌++◌, bytes_eq, Some, Ok, cond, refl, sym, ap, ◌∙◌}
use Rattle.std.specs.List.{list_any}
use Rattle.std.proofs.lemmas.Bool.{and_from}
use Rattle.std.proofs.lemmas.List.Folds.{list_any-append}
use Rattle.qtt_base.specs.declared.place.Span.{Span}
use Rattle.qtt_syntax.specs.Tree.{Item}
use Rattle.qtt_names.specs.Answer.{Answer, duplicate}
use Rattle.qtt_names.specs.Patterns.{first_of}
use Rattle.qtt_names.specs.Patterns as names
use Rattle.qtt_names.specs.Resolved.{Before, goes_on, behind}
use Rattle.qtt_names.specs.Scope.{Scope, same_name}
use Rattle.qtt_accepted.specs.Stages.{is_among, all_differ}
use Rattle.qtt_accepted.proofs.Outlines.{outlines, grouped, Each, bytes-same}
use Rattle.qtt_accepted.proofs.Passing.{AllNew}

-- each is none of these and of those before it
abbrev pub Fresh : List (List ℕ) → List (List ℕ) → Type 0
Fresh before [] = Unit {0}
Fresh before (n ∷ ns) = (names.is_among n before ≡ false) × Fresh (before ++ n ∷ []) ns

-- ---- no two are the same
pub none-any : (p : List ℕ → Bool) (ns : List (List ℕ)) → Each (λ n. p n ≡ false) ns → list_any p ns ≡ false
none-any p [] a = refl
none-any p (n ∷ ns) a = ap (λ b. b || list_any p ns) a.0 ∙ none-any p ns a.1

neither : (p q : Bool) → p || q ≡ false → (p ≡ false) × (q ≡ false)
neither true q e = absurd (cc e)
neither false q e = (refl, e)

apart : (n m : List ℕ) (before : List (List ℕ)) → names.is_among m (before ++ n ∷ []) ≡ false →
    (names.is_among m before ≡ false) × (bytes_eq n m ≡ false)
apart n m before e =
    let (a, b) = neither (names.is_among m before) (list_any (same_name m) (n ∷ []))
    (sym (list_any-append (same_name m) before (n ∷ [])) ∙ e) in
    (a, bytes-same n m ∙ (neither (same_name m n) false b).0)

all-apart : (n : List ℕ) (before ns : List (List ℕ)) → Each (λ m. names.is_among m (before ++ n ∷ []) ≡ false) ns →
    Each (λ m. names.is_among m before ≡ false) ns × Each (λ m. bytes_eq n m ≡ false) ns
all-apart n before [] a = (tt, tt)
all-apart n before (m ∷ ns) a =
    let h = apart n m before a.0 in
    let k = all-apart n before ns a.1 in
    ((h.0, k.0), (h.1, k.1))

differ : (before ns : List (List ℕ)) → Fresh before ns →
    Each (λ m. names.is_among m before ≡ false) ns × (all_differ ns ≡ true)
differ before [] f = (tt, refl)
differ before (n ∷ ns) f =
    let h = differ (before ++ n ∷ []) ns f.1 in
    let k = all-apart n before ns h.0 in
    ((f.0, k.0), and_from (not (is_among n ns)) (all_differ ns) (ap not (none-any (bytes_eq n) ns k.1)) h.1)

pub fresh-differ : (ns : List (List ℕ)) → Fresh [] ns → all_differ ns ≡ true
fresh-differ ns f = (differ [] ns f).1

-- ---- groups of clauses
abbrev met : Answer (Unit {0})
met = Ok tt

first-so : (b : Bool) (n : List ℕ) (span : Span) → cond b (duplicate n span) met ≡ met → b ≡ false
first-so true n span e = absurd (cc e)
first-so false n span e = refl

pub groups-fresh : (s : Scope) (b : Before) (is : List Item) → AllNew s b is →
    Fresh b.groups (grouped b.last (outlines is))
groups-fresh s b [] a = tt
groups-fresh s b (Item.family n r ps t cs span ∷ is) a =
    groups-fresh s (behind b (Item.family n r ps t cs span)) is a.1
groups-fresh s b (Item.signature p q n r t span ∷ is) a =
    groups-fresh s (behind b (Item.signature p q n r t span)) is a.1
groups-fresh s b (Item.clause n ps side span ∷ is) a =
    by_test (goes_on b.last n) a.0 (groups-fresh s (behind b (Item.clause n ps side span)) is a.1)
  where
    by_test : (t : Bool) → cond t met (first_of b.groups n span) ≡ met →
        Fresh (cond t b.groups (b.groups ++ n ∷ [])) (grouped (Some n) (outlines is)) →
        Fresh b.groups (cond t (grouped (Some n) (outlines is)) (n ∷ grouped (Some n) (outlines is)))
    by_test true e f = f
    by_test false e f = (first-so (names.is_among n b.groups) n span e, f)
