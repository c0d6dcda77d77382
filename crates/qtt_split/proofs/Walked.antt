-- Questions about one thing after another.
use Rattle.std.proofs.Common.{◌≡◌, ◌∙◌, ℕ, suc, ◌+◌, ◌<◌, ◌≤◌, eqb, List, [], ◌∷◌, length, get_or, map, drop, refl, sym, ap}
use Rattle.std.proofs.lemmas.List.{drop_more, drop_all}
use Rattle.qtt_syntax.specs.declared.module.Clause as code_clause
use Rattle.qtt_syntax.specs.declared.pattern.Pattern.{Pattern}
use Rattle.qtt_syntax.specs.Tree.{Shape, shapes}
use Rattle.qtt_syntax.specs.View.{shape_of}
use Rattle.qtt_term.specs.Signature.{Env}
use Rattle.qtt_term.specs.Ask.{Ask, ◌>>=◌, within}
use Rattle.qtt_term.specs.Entries.{Entries}
use Rattle.qtt_rules.specs.declared.errors.ElabError.{ElabError}
use Rattle.qtt_rules.specs.Refusal.{Cause}
use Rattle.qtt_rules.specs.Asks.{Asks, need}
use Rattle.qtt_split.specs.Answers.{Reaches, Refuses}
use Rattle.qtt_split.specs.Calls.{clause_of}
use Rattle.qtt_split.specs.Tests.{Test, at}
use Rattle.qtt_split.specs.Plan.{so_wide, full, all_full, patterns_full, clauses_full, shape_count}
use Rattle.qtt_split.proofs.Within.{past, here, refuses-alike}

-- what is asked of a list is asked of each, in order
pub record Walk {X : Type 0} (f : List X → Asks (Unit {0})) (g : X → Asks (Unit {0})) : Type 0 where
  pub none : f [] ≡ Ask.done tt
  pub more : (x : X) (xs : List X) → f (x ∷ xs) ≡ (g x >>= (λ u. f xs))

-- so far nothing was refused
pub record Walked (E : Env) (n : ℕ) {X : Type 0} (f : List X → Asks (Unit {0})) (xs : List X) (i : ℕ) : Type 0 where
  pub is : within E n (f xs) ≡ within E n (f (drop i xs))

pub begun : (E : Env) (n : ℕ) {X : Type 0} (f : List X → Asks (Unit {0})) (xs : List X) → Walked E n f xs 0
begun E n f xs = record { is = refl }

turn : (E : Env) (n : ℕ) {X : Type 0} (f : List X → Asks (Unit {0})) (g : X → Asks (Unit {0})) (xs : List X) (i : ℕ)
    (x : X) → Walk f g → i < length xs → x ≡ get_or xs i x → Walked E n f xs i →
    within E n (f xs) ≡ within E n (g x >>= (λ u. f (drop (i + 1) xs)))
turn E n f g xs i x w h e so =
    so.is ∙
    ap (λ ys. within E n (f ys)) (drop_more xs i x h ∙ ap (λ y. y ∷ drop (i + 1) xs) (sym e)) ∙
    ap (within E n) (w.more x (drop (i + 1) xs))

pub one-walked : (E : Env) (n : ℕ) {X : Type 0} (f : List X → Asks (Unit {0})) (g : X → Asks (Unit {0}))
    (xs : List X) (i : ℕ) (x : X) → Walk f g → i < length xs → x ≡ get_or xs i x → Reaches E n (g x) tt →
    Walked E n f xs i → Walked E n f xs (i + 1)
one-walked E n f g xs i x w h e r so = record {
  is = turn E n f g xs i x w h e so ∙ past E n (g x) (λ u. f (drop (i + 1) xs)) r;
}

pub walk-stopped : (E : Env) (n : ℕ) {X : Type 0} (f : List X → Asks (Unit {0})) (g : X → Asks (Unit {0}))
    (xs : List X) (i : ℕ) (x : X) (r : ElabError) → Walk f g → i < length xs → x ≡ get_or xs i x →
    Refuses E n (g x) r → Walked E n f xs i → Refuses E n (f xs) r
walk-stopped E n f g xs i x r w h e d so =
    refuses-alike E n (g x >>= (λ u. f (drop (i + 1) xs))) (f xs) r (turn E n f g xs i x w h e so)
    (here E n (g x) (λ u. f (drop (i + 1) xs)) r d)

pub all-walked : (E : Env) (n : ℕ) {X : Type 0} (f : List X → Asks (Unit {0})) (g : X → Asks (Unit {0}))
    (xs : List X) (i : ℕ) → Walk f g → length xs ≤ i → Walked E n f xs i → Reaches E n (f xs) tt
unfolding within
all-walked E n f g xs i w h so = record {
  is = so.is ∙ ap (λ ys. within E n (f ys)) (drop_all i xs h) ∙ ap (within E n) w.none;
}

-- ---- the walks of clauses
abbrev pub wide : ℕ → List code_clause.Clause → Asks (Unit {0})
wide k cs = so_wide k (map clause_of cs)

abbrev pub wide_one : ℕ → code_clause.Clause → Asks (Unit {0})
wide_one k c =
    let m = length (map shape_of c.patterns.items) in
    need (eqb m k) (Cause.wrong_arity k m) (at c.span Test.one_width)

pub wide-walk : (k : ℕ) → Walk (wide k) (wide_one k)
wide-walk k = record { none = refl; more = λ c cs. refl }

abbrev pub filled_patterns : Entries → List Pattern → Asks (Unit {0})
filled_patterns K ps = patterns_full K (map shape_of ps)

pub patterns-walk : (K : Entries) → Walk (filled_patterns K) (λ p. full K (shape_of p))
patterns-walk K = record { none = refl; more = λ p ps. refl }

abbrev pub filled_clauses : Entries → List code_clause.Clause → Asks (Unit {0})
filled_clauses K cs = clauses_full K (map clause_of cs)

pub clauses-walk : (K : Entries) → Walk (filled_clauses K) (λ c. filled_patterns K c.patterns.items)
clauses-walk K = record { none = refl; more = λ c cs. refl }

-- ---- patterns of fields
pub fields-full : (K : Entries) (ps : List Shape) → all_full K (shapes ps) ≡ patterns_full K ps
fields-full K [] = refl
fields-full K (p ∷ ps) = ap (λ m. full K p >>= (λ u. m)) (fields-full K ps)

pub fields-counted : (ps : List Shape) → shape_count (shapes ps) ≡ length ps
fields-counted [] = refl
fields-counted (p ∷ ps) = ap suc (fields-counted ps)
