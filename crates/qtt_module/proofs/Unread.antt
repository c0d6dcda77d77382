-- The questions of a family's constructors ask for no reading.
use Rattle.std.proofs.Common.{ℕ, List, [], ◌∷◌, Option}
use Rattle.qtt_base.specs.declared.place.Span.{Span}
use Rattle.qtt_syntax.specs.Tree.{Tree, Con}
use Rattle.qtt_syntax.specs.Tree.Con.{con}
use Rattle.qtt_term.specs.Term.{Term}
use Rattle.qtt_term.specs.Judgement.{Part}
use Rattle.qtt_term.specs.Ask.{Ask, asked_at, NoReading}
use Rattle.qtt_term.specs.Entries.{Entries, env}
use Rattle.qtt_term.specs.Scope.{Scope}
use Rattle.qtt_term.specs.Forms.{as_sort}
use Rattle.qtt_rules.specs.Refusal.{Place}
use Rattle.qtt_rules.specs.Asks.{Asks}
use Rattle.qtt_rules.specs.Judged.{Judged, Mode}
use Rattle.qtt_core_check.proofs.Unread.{both, needs, finds}
use Rattle.qtt_core_check.proofs.Unread as core
use Rattle.qtt_bidi.specs.Elaboration.{place, is_type}
use Rattle.qtt_bidi.proofs.Unread.{unread}
use Rattle.qtt_module.specs.Families.{Piece, pieces, end_of, fields, field_type, accepted, Head, constructor, constructors}

at_once : {F P G Q A B : Type 0} (q : Q) (m : Ask F P A) (k : A → Ask G Q B) (r : F → Ask G Q B) → NoReading m →
    ((a : A) → NoReading (k a)) → ((f : F) → NoReading (r f)) → NoReading (asked_at q m k r)
unfolding asked_at
at_once q (Ask.done a) k r n u v = u a
at_once q (Ask.fail f) k r n u v = v f
at_once q (Ask.head p d t g) k r n u v = λ h. at_once q (g h) k r (n h) u v
at_once q (Ask.read p d t g) k r n u v = absurd n
at_once q (Ask.compare p d t s m w) k r n u v = (at_once q m k r n.0 u v, at_once q w k r n.1 u v)

typing : (S : Scope) (M : Asks Judged) (l : Place) → NoReading M → NoReading (is_type S M l)
typing S M l u = both _ _ u (λ j. both _ _ (λ h. finds Place (as_sort h) _) (λ v. tt))

again_unread : (G : Entries) (S : Scope) (n : List ℕ) (b : Option ℕ) (s : Span) (A : Term) →
    NoReading (accepted G S n b s A)
again_unread G S n b s A =
    at_once _ _ _ _ (core.unread (env G) A Part.erased S.vars) (λ j. both _ _ (λ h. finds Place (as_sort h) _)
    (λ l. needs _ _ _)) (λ f. tt)

field_unread : (G : Entries) (S : Scope) (n : List ℕ) (l : ℕ) (s : Span) (A : Tree) →
    NoReading (field_type G S n l s A)
field_unread G S n l s A =
    both _ _ (typing S _ _ (unread A G Part.erased S Mode.synth)) (λ D. both _ _ (needs _ _ _) (λ v.
    both (accepted G S n (Option.Some l) (place A) D.core) (λ w. Ask.done D.core)
    (again_unread G S n (Option.Some l) (place A) D.core) (λ w. tt)))

fields_unread : (G : Entries) (n : List ℕ) (l : ℕ) (S : Scope) (xs : List Piece) → NoReading (fields G n l S xs)
fields_unread G n l S [] = tt
fields_unread G n l S (x ∷ xs) =
    both _ _ (field_unread G S n l x.span x.type) (λ T. both _ _ (fields_unread G n l _ xs) (λ r. tt))

constructor_unread : (G : Entries) (F : Head) (k : ℕ) (c : Con) → NoReading (constructor G F k c)
constructor_unread G F k (con n t s) =
    both _ _ (fields_unread G n F.level F.params.scope (pieces t))
    (λ r. both _ _ (unread (end_of t) G Part.erased r.scope Mode.synth) (λ j. both _ _ (finds _ _ _) (λ us. tt)))

pub constructors_unread : (G : Entries) (F : Head) (k : ℕ) (cs : List Con) → NoReading (constructors G F k cs)
constructors_unread G F k [] = tt
constructors_unread G F k (c ∷ cs) =
    both _ _ (constructor_unread G F k c) (λ d. both _ _ (constructors_unread G F _ cs) (λ ds. tt))
