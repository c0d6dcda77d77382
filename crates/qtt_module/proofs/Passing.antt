-- Declarations that are judged from one stage to the next.
use Rattle.std.proofs.Common.{◌≡◌, ◌∙◌, ℕ, suc, ◌+◌, ◌<◌, ◌≤◌, inl, inr, Bool, false, List, [], ◌∷◌, ◌++◌, map, length, drop, get_or, Option, Some, None, Result, Ok, Err, IsErrAnd, refl, sym, ap, subst, arith}
use Rattle.std.proofs.lemmas.List.{drop_more, drop_all}
use Rattle.qtt_base.specs.declared.place.GlobalId.{GlobalId}
use Rattle.qtt_base.specs.declared.place.Span.{Span}
use Rattle.qtt_usage.specs.declared.mult.Mult.{Mult}
use Rattle.qtt_syntax.specs.Tree.{Tree, Param, Con}
use Rattle.qtt_syntax.specs.declared.module.Clause as code_clause
use Rattle.qtt_term.specs.Signature.{Env}
use Rattle.qtt_term.specs.Ask.{Ask, ◌>>=◌, Ending, within}
use Rattle.qtt_term.specs.Items.{FamilyEntry, DefinitionEntry}
use Rattle.qtt_term.specs.Entries.{Entries, env, with_family, with_definition}
use Rattle.qtt_term.specs.Scope.{name_of}
use Rattle.qtt_rules.specs.declared.errors.ElabError.{ElabError}
use Rattle.qtt_rules.specs.declared.errors.ElabError.TheVariants as error
use Rattle.qtt_term.specs.declared.rule.Rule.TheVariants as rule
use Rattle.qtt_rules.specs.Refusal.{Cause, Place, Refusal, at}
use Rattle.qtt_rules.specs.Asks.{Asks}
use Rattle.qtt_bidi.specs.Answers.{Kept, kept, Reaches, Fails, Tells, Refuses, Gives}
use Rattle.qtt_bidi.proofs.Within.{on, on_done, here}
use Rattle.qtt_split.specs.Calls.{clause_of}
use Rattle.qtt_split.specs.Node.{Clause}
use Rattle.qtt_holes.specs.Hole.{Hole}
use Rattle.qtt_module.specs.Additions.{Put, Left}
use Rattle.qtt_module.specs.declared.declaration.Declaration as code_declaration
use Rattle.qtt_module.specs.declared.declaration.Declaration.TheVariants as variant
use Rattle.qtt_module.specs.Declarations.{Declaration}
use Rattle.qtt_module.specs.Declaring.{grouped, declared, all_declared}
use Rattle.qtt_module.specs.GivenBodies.{of_clauses, HasBody}
use Rattle.qtt_module.specs.Families.{Head, family, signature, labels}
use Rattle.qtt_module.specs.FamilyParts.{head, standing_bare}
use Rattle.qtt_module.specs.Module.{Home, item_of, Signed, Stage, after_family, after_signature, after_group, signed_as, defined, declare, all_have_clauses, first_bare, or_bare, clauses_number, next, in_turn, group_for, now_given, with_clauses}
use Rattle.qtt_module.specs.ModuleRules.{signed_next}
use Rattle.qtt_module.specs.Sides.{Given, group_of}
use Rattle.qtt_module.specs.Stages.{KeepsAt, RefusedSo, Passes, PassesAll}
use Rattle.qtt_module.specs.Text.{standing, or_later, standing_in_turn}

-- ---- endings, as a refusal of a list of questions tells them
keeps : (E : Env) (n : ℕ) {A : Type 0} (m : Asks A) (p : Place) (k : Kept) → Tells E n m p k →
    KeepsAt n (within E n m) p k
keeps E n m p (Kept.premise c) h = h.is
keeps E n m p (Kept.question_of b q) h = (h.budget, h.is)
keeps E n m p Kept.nothing h = h

-- where this stands
pub refused-here : (E : Env) (n : ℕ) {A : Type 0} (m : Asks A) (G H : Entries) (e : ElabError) → Refuses E n m e →
    ((d : ElabError) → e ≡ d → G ≡ H) → RefusedSo n (within E n m) G H e
refused-here E n m G H (error.Refused d s r k) h same = (keeps E n m (at s r k) (kept d) h, same _ refl)
refused-here E n m G H error.Memory h same = tt

-- ---- what stands where a family is refused
bare-where : (G H : Entries) (n : ℕ) (m : Asks Head) (p : Place) (k : Kept) → Tells (env G) n m p k → H ≡ G →
    H ≡ standing_bare G (within (env G) n m)
bare-where G H n m p (Kept.premise c) h same = same ∙ sym (ap (standing_bare G) h.is)
bare-where G H n m p (Kept.question_of b q) h same = same ∙ sym (ap (standing_bare G) h.is)
bare-where G H n m p Kept.nothing h same = absurd h

family-refused : (G H : Entries) (n : ℕ) (m : Asks Head) {A : Type 0} (w : Asks A) (e : ElabError) →
    Refuses (env G) n w e → Left G H n m (Err e) →
    RefusedSo n (within (env G) n w) H (standing_bare G (within (env G) n m)) e
family-refused G H n m w (error.Refused d s r k) h (inl x) =
    (keeps (env G) n w (at s r k) (kept d) h, bare-where G H n m (at s r k) (kept d) x.0 x.1)
family-refused G H n m w (error.Refused d s r k) h (inr x) =
    (keeps (env G) n w (at s r k) (kept d) h, x.stands ∙ sym (ap (standing_bare G) x.reaches.is))
family-refused G H n m w error.Memory h x = tt

-- ---- one declaration
module _ (M : Home) (n : ℕ) (S : Stage) where
  abbrev E : Env
  E = env S.globals

  module _ (x : List ℕ) (ps : List Param) (t : Tree) (cs : List Con) where
    abbrev asked-family : Asks FamilyEntry
    asked-family = family S.globals (item_of M S.next) M.name x ps t cs

    pub family-passes : (H : Entries) (T : Stage) → Put with_family S.globals H n asked-family →
        T ≡ record { globals = H; next = suc (length cs + S.next); signed = S.signed; holes = S.holes } →
        within E n (declare M S (Declaration.family x ps t cs)) ≡ Ending.ok T
    unfolding declare
    family-passes H T p e =
        (on (λ F. Ask.done (after_family F (length cs) S)) p.reaches on_done).is
        ∙ ap Ending.ok (sym (e ∙ ap (λ H. record {
          globals = H;
          next = suc (length cs + S.next);
          signed = S.signed;
          holes = S.holes;
        }) p.stands))

    pub family-stops : (H : Entries) (e : ElabError) → Refuses E n asked-family e →
        Left S.globals H n (head S.globals (item_of M S.next) M.name x ps t) (Err e) →
        RefusedSo n (within E n (declare M S (Declaration.family x ps t cs))) H
        (standing M n S (Declaration.family x ps t cs)) e
    unfolding declare
    family-stops H e h left =
        family-refused S.globals H n (head S.globals (item_of M S.next) M.name x ps t)
        (asked-family >>= λ F. Ask.done (after_family F (length cs) S)) e
        (here E n asked-family (λ F. Ask.done (after_family F (length cs) S)) e h) left

  module _ (b : Bool) (q : Mult) (x : List ℕ) (s : Span) (t : Tree) where
    abbrev asked-signature : Asks DefinitionEntry
    asked-signature = signature S.globals (item_of M S.next) M.name x q t

    abbrev added : Entries → Stage
    added H = record {
      globals = H;
      next = suc S.next;
      signed = S.signed ++ signed_next M S b x s t ∷ [];
      holes = S.holes;
    }

    pub signature-passes : (H : Entries) (T : Stage) → Put with_definition S.globals H n asked-signature →
        T ≡ added H → within E n (declare M S (Declaration.signature b q x s t)) ≡ Ending.ok T
    unfolding declare
    signature-passes H T p e =
        (on (λ d. Ask.done (after_signature d (signed_next M S b x s t) S)) p.reaches on_done).is
        ∙ ap Ending.ok (sym (e ∙ ap added p.stands))

    pub signature-stops : (H : Entries) (e : ElabError) → Refuses E n asked-signature e → H ≡ S.globals →
        RefusedSo n (within E n (declare M S (Declaration.signature b q x s t))) H S.globals e
    unfolding declare
    signature-stops H e h same =
        refused-here E n (asked-signature >>= λ d. Ask.done (after_signature d (signed_next M S b x s t) S)) H
        S.globals e
        (here E n asked-signature (λ d. Ask.done (after_signature d (signed_next M S b x s t) S)) e h) (λ d h. same)

  module _ (x : List ℕ) (c : Clause) (cs : List Clause) (y : Signed) (named : signed_as x S.signed ≡ Some y) where
    abbrev asked-group : Asks Given
    asked-group = group_of (defined S y c cs)

    group-is : declare M S (Declaration.group x c cs) ≡ asked-group >>= λ g. Ask.done (after_group x y.id g S)
    unfolding declare
    group-is = ap (λ o. group_for o S x c cs) named

    pub group-passes : (g : Given) → Reaches E n asked-group g →
        within E n (declare M S (Declaration.group x c cs)) ≡ Ending.ok (after_group x y.id g S)
    group-passes g h =
        ap (within E n) group-is ∙ (on (λ g. Ask.done (after_group x y.id g S)) h on_done).is

    pub group-stops : (H : Entries) (e : ElabError) → Refuses E n asked-group e → H ≡ S.globals →
        RefusedSo n (within E n (declare M S (Declaration.group x c cs))) H S.globals e
    group-stops H e h same =
        subst (λ m. RefusedSo n (within E n m) H S.globals e) (sym group-is)
        (refused-here E n (asked-group >>= λ g. Ask.done (after_group x y.id g S)) H S.globals e
        (here E n asked-group (λ g. Ask.done (after_group x y.id g S)) e h) (λ d h. same))

-- ---- behind the last one
module _ (n : ℕ) (S : Stage) where
  pub none-lacks : first_bare S.signed ≡ None → Reaches (env S.globals) n (all_have_clauses S) S
  unfolding within
  none-lacks h = record { is = ap (λ o. within (env S.globals) n (or_bare S o)) h }

  pub one-lacks : (x : Signed) → first_bare S.signed ≡ Some x →
      Fails (env S.globals) n (all_have_clauses S) (Cause.no_clauses x.name) (at x.place rule.Clauses clauses_number)
  unfolding within
  one-lacks x h = record { is = ap (λ o. within (env S.globals) n (or_bare S o)) h }

-- ---- declarations in turn
module _ (M : Home) (n : ℕ) where
  pub turn-on : (S T : Stage) (d : Declaration) (ds : List Declaration) →
      within (env S.globals) n (declare M S d) ≡ Ending.ok T → in_turn M n S (d ∷ ds) ≡ in_turn M n T ds
  unfolding in_turn next
  turn-on S T d ds h = ap (λ o. next o (λ T. in_turn M n T ds)) h

  pub standing-on : (S T : Stage) (d : Declaration) (ds : List Declaration) →
      within (env S.globals) n (declare M S d) ≡ Ending.ok T →
      standing_in_turn M n S (d ∷ ds) ≡ standing_in_turn M n T ds
  standing-on S T d ds h = ap (λ o. or_later o (standing M n S d) (λ T. standing_in_turn M n T ds)) h

  module _ (S : Stage) (d : Declaration) (ds : List Declaration) where
    abbrev first : Ending Refusal Place Stage
    first = within (env S.globals) n (declare M S d)

    stops-there : (p : Place) (k : Kept) → KeepsAt n first p k → KeepsAt n (in_turn M n S (d ∷ ds)) p k
    unfolding in_turn next
    stops-there p (Kept.premise c) h = ap (λ o. next o (λ T. in_turn M n T ds)) h
    stops-there p (Kept.question_of b q) h = (h.0, ap (λ o. next o (λ T. in_turn M n T ds)) h.1)
    stops-there p Kept.nothing h = h

    stands-there : (p : Place) (k : Kept) → KeepsAt n first p k →
        standing M n S d ≡ standing_in_turn M n S (d ∷ ds)
    stands-there p (Kept.premise c) h =
        sym (ap (λ o. or_later o (standing M n S d) (λ T. standing_in_turn M n T ds)) h)
    stands-there p (Kept.question_of b q) h =
        sym (ap (λ o. or_later o (standing M n S d) (λ T. standing_in_turn M n T ds)) h.1)
    stands-there p Kept.nothing h = absurd h

    pub turn-stops : (H : Entries) (e : ElabError) → RefusedSo n first H (standing M n S d) e →
        RefusedSo n (in_turn M n S (d ∷ ds)) H (standing_in_turn M n S (d ∷ ds)) e
    turn-stops H (error.Refused k s r i) h =
        (stops-there (at s r i) (kept k) h.0, h.1 ∙ stands-there (at s r i) (kept k) h.0)
    turn-stops H error.Memory h = tt

  -- the declarations of these lists end as those behind some of them do from another stage
  pub record SoFar (S T : Stage) (all rest : List Declaration) : Type 0 where
    pub ends : in_turn M n S all ≡ in_turn M n T rest
    pub stands : standing_in_turn M n S all ≡ standing_in_turn M n T rest

  pub none-yet : (S : Stage) (all : List Declaration) → SoFar S S all all
  none-yet S all = record { ends = refl; stands = refl }

  pub one-more : (S T U : Stage) (all rest : List Declaration) (d : Declaration) → SoFar S T all (d ∷ rest) →
      within (env T.globals) n (declare M T d) ≡ Ending.ok U → SoFar S U all rest
  one-more S T U all rest d x h =
      record { ends = x.ends ∙ turn-on T U d rest h; stands = x.stands ∙ standing-on T U d rest h }

  pub carried : (S T : Stage) (all rest : List Declaration) → SoFar S T all rest → (H : Entries) (e : ElabError) →
      RefusedSo n (in_turn M n T rest) H (standing_in_turn M n T rest) e →
      RefusedSo n (in_turn M n S all) H (standing_in_turn M n S all) e
  carried S T all rest x H e h =
      subst (λ o. RefusedSo n o H (standing_in_turn M n S all) e) (sym x.ends)
      (subst (λ K. RefusedSo n (in_turn M n T rest) H K e) (sym x.stands) h)

-- ---- the refusal that a question mark passes on
pub passes-on : (M : Home) (n : ℕ) (o : Ending Refusal Place Stage) (G : Entries) (T : Stage)
    (r : Result (Unit {0}) ElabError) (e : ElabError) → IsErrAnd r (λ y. y ≡ e) → RefusedSo n o T.globals G e →
    Passes M n o G T r
passes-on M n o G T (Ok u) e h f = absurd h
passes-on M n o G T (Err y) e h f = subst (λ z. RefusedSo n o T.globals G z) (sym h) f

-- ---- the same, of an item whose id is that of the next one
module _ (M : Home) (n : ℕ) (S : Stage) (i : GlobalId) (same : i ≡ item_of M S.next) where
  module _ (x : List ℕ) (ps : List Param) (t : Tree) (cs : List Con) where
    abbrev family-as : GlobalId → Asks FamilyEntry
    family-as i = family S.globals i M.name x ps t cs

    pub family-passes-as : (H : Entries) (T : Stage) → Put with_family S.globals H n (family-as i) →
        T ≡ record { globals = H; next = suc (length cs + S.next); signed = S.signed; holes = S.holes } →
        within (env S.globals) n (declare M S (Declaration.family x ps t cs)) ≡ Ending.ok T
    family-passes-as H T p =
        family-passes M n S x ps t cs H T (subst (λ i. Put with_family S.globals H n (family-as i)) same p)

    pub family-stops-as : (H : Entries) (e : ElabError) → Refuses (env S.globals) n (family-as i) e →
        Left S.globals H n (head S.globals i M.name x ps t) (Err e) →
        RefusedSo n (within (env S.globals) n (declare M S (Declaration.family x ps t cs))) H
        (standing M n S (Declaration.family x ps t cs)) e
    family-stops-as H e h left =
        family-stops M n S x ps t cs H e (subst (λ i. Refuses (env S.globals) n (family-as i) e) same h)
        (subst (λ i. Left S.globals H n (head S.globals i M.name x ps t) (Err e)) same left)

  module _ (b : Bool) (q : Mult) (x : List ℕ) (s : Span) (t : Tree) where
    abbrev signature-as : GlobalId → Asks DefinitionEntry
    signature-as i = signature S.globals i M.name x q t

    pub signature-stops-as : (H : Entries) (e : ElabError) → Refuses (env S.globals) n (signature-as i) e →
        H ≡ S.globals →
        RefusedSo n (within (env S.globals) n (declare M S (Declaration.signature b q x s t))) H S.globals e
    signature-stops-as H e h =
        signature-stops M n S b q x s t H e (subst (λ i. Refuses (env S.globals) n (signature-as i) e) same h)

    -- with the signature behind the others
    pub signature-passes-as : (H : Entries) (y : List ℕ) (ls : List (Option (List ℕ))) (k : ℕ) (xs : List Signed) →
        Put with_definition S.globals H n (signature-as i) → y ≡ x → ls ≡ map name_of (labels t) → k ≡ suc S.next →
        xs ≡ S.signed ++ record { id = i; name = y; place = s; labels = ls; may_miss = b; has_clauses = false } ∷ [] →
        within (env S.globals) n (declare M S (Declaration.signature b q x s t))
        ≡ Ending.ok (record { globals = H; next = k; signed = xs; holes = S.holes })
    signature-passes-as H y ls k xs p a l e z =
        signature-passes M n S b q x s t H _
        (subst (λ i. Put with_definition S.globals H n (signature-as i)) same p)
        (ap (λ k. record { globals = H; next = k; signed = xs; holes = S.holes }) e
        ∙ ap (λ xs. record { globals = H; next = suc S.next; signed = xs; holes = S.holes }) (z
        ∙ ap (λ y. S.signed ++ y ∷ []) (ap (λ i. made i y ls) same
        ∙ ap (λ y. made (item_of M S.next) y ls) a ∙ ap (made (item_of M S.next) x) l)))
      where
        made : GlobalId → List ℕ → List (Option (List ℕ)) → Signed
        made i y ls = record { id = i; name = y; place = s; labels = ls; may_miss = b; has_clauses = false }

-- ---- clauses of a definition that has a signature
module _ (M : Home) (n : ℕ) (S : Stage) (y : Signed) where
  pub clauses-stop : (cs : List code_clause.Clause) (c : code_clause.Clause) (d : Declaration) →
      c ≡ get_or cs 0 c → signed_as c.name S.signed ≡ Some y → grouped cs ≡ d ∷ [] → (H : Entries)
      (e : ElabError) → Refuses (env S.globals) n (group_of (of_clauses S.globals y cs)) e → H ≡ S.globals →
      RefusedSo n (within (env S.globals) n (declare M S d)) H (standing M n S d) e
  clauses-stop [] c d is named h H e f same = absurd (cc h)
  clauses-stop (x ∷ xs) c d is named h H e f same =
      let first : x ≡ c = sym is in
      let whole : Declaration.group x.name (clause_of x) (map clause_of xs) ≡ d = cc h in
      subst (λ d. RefusedSo n (within (env S.globals) n (declare M S d)) H (standing M n S d) e) whole
      (group-stops M n S x.name (clause_of x) (map clause_of xs) y (ap (λ z. signed_as z.name S.signed) first ∙ named)
      H e f same)

  pub clauses-pass : (cs : List code_clause.Clause) (c : code_clause.Clause) (d : Declaration) →
      c ≡ get_or cs 0 c → signed_as c.name S.signed ≡ Some y → grouped cs ≡ d ∷ [] → (H : Entries)
      (hs : List Hole) (xs : List Signed) (zs : List Hole) → HasBody S.globals H n (of_clauses S.globals y cs) y.id hs →
      xs ≡ map (with_clauses c.name) S.signed → zs ≡ S.holes ++ hs →
      within (env S.globals) n (declare M S d)
      ≡ Ending.ok (record { globals = H; next = S.next; signed = xs; holes = zs })
  clauses-pass [] c d is named h H hs xs zs b marked told = absurd (cc h)
  clauses-pass (x ∷ more) c d is named h H hs xs zs b marked told =
      let first : x ≡ c = sym is in
      let whole : Declaration.group x.name (clause_of x) (map clause_of more) ≡ d = cc h in
      subst (λ d. within (env S.globals) n (declare M S d)
      ≡ Ending.ok (record { globals = H; next = S.next; signed = xs; holes = zs })) whole
      (group-passes M n S x.name (clause_of x) (map clause_of more) y
      (ap (λ z. signed_as z.name S.signed) first ∙ named) b.given b.reaches
      ∙ ap Ending.ok (sym (ap (λ H. record { globals = H; next = S.next; signed = xs; holes = zs }) b.stands
      ∙ ap (λ xs. made xs zs) (marked ∙ ap (λ z. map (with_clauses z.name) S.signed) (sym first))
      ∙ ap (made (map (with_clauses x.name) S.signed)) (told ∙ ap (λ hs. S.holes ++ hs) b.holes))))
    where
      made : List Signed → List Hole → Stage
      made xs zs = record { globals = now_given y.id b.given S.globals; next = S.next; signed = xs; holes = zs }

-- ---- what the code declares, one after another
-- a declaration of the code is one declaration
pub record IsOne (x : code_declaration.Declaration) : Type 0 where
  pub it : Declaration
  pub is : declared x ≡ it ∷ []

grouped-one : (cs : List code_clause.Clause) → 0 < length cs → (d : Declaration) × (grouped cs ≡ d ∷ [])
grouped-one [] h = let no : ⊥ = omega (arith, h) in absurd no
grouped-one (c ∷ cs) h = (_, refl)

pub declared-one : (x : code_declaration.Declaration) → IsOne x
declared-one (variant.Family f) = record { it = _; is = refl }
declared-one (variant.Signature d) = record { it = _; is = refl }
declared-one (variant.Group g) = let w = grouped-one g.clauses.items g.some in record { it = w.0; is = w.1 }

module _ (M : Home) (n : ℕ) (S T : Stage) (xs : List code_declaration.Declaration) (i : ℕ)
    (so : SoFar M n S T (all_declared xs) (all_declared (drop i xs))) where
  module _ (x : code_declaration.Declaration) (is : x ≡ get_or xs i x) (there : i < length xs) where
    abbrev one : Declaration
    one = (declared-one x).it

    rest-is : all_declared (drop i xs) ≡ one ∷ all_declared (drop (i + 1) xs)
    rest-is =
        ap all_declared (drop_more xs i x there ∙ ap (λ y. y ∷ drop (i + 1) xs) (sym is))
        ∙ ap (λ ds. ds ++ all_declared (drop (i + 1) xs)) (declared-one x).is

    so-one : SoFar M n S T (all_declared xs) (one ∷ all_declared (drop (i + 1) xs))
    so-one = subst (SoFar M n S T (all_declared xs)) rest-is so

    pub one-passes : (U : Stage) → within (env T.globals) n (declare M T one) ≡ Ending.ok U →
        SoFar M n S U (all_declared xs) (all_declared (drop (i + 1) xs))
    one-passes U h = one-more M n S T U (all_declared xs) (all_declared (drop (i + 1) xs)) one so-one h

    pub one-stops : (H : Entries) (e : ElabError) →
        RefusedSo n (within (env T.globals) n (declare M T one)) H (standing M n T one) e →
        RefusedSo n (in_turn M n S (all_declared xs)) H (standing_in_turn M n S (all_declared xs)) e
    one-stops H e h =
        carried M n S T (all_declared xs) (one ∷ all_declared (drop (i + 1) xs)) so-one H e
        (turn-stops M n T one (all_declared (drop (i + 1) xs)) H e h)

  -- behind the last one
  module _ (done : length xs ≤ i) where
    so-end : SoFar M n S T (all_declared xs) []
    so-end = subst (SoFar M n S T (all_declared xs)) (ap all_declared (drop_all i xs done)) so

    pub all-pass : (r : Result (Unit {0}) ElabError) →
        Gives (env T.globals) n (all_have_clauses T) (λ u. T) r →
        PassesAll M n S (all_declared xs) T r
    unfolding in_turn
    all-pass (Ok u) h = so-end.ends ∙ h.is
    all-pass (Err e) h =
        carried M n S T (all_declared xs) [] so-end T.globals e
        (refused-here (env T.globals) n (all_have_clauses T) T.globals T.globals e h (λ d h. refl))
