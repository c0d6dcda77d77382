-- Each list of tokens has one outcome.
use Rattle.std.proofs.Common.{◌≡◌, Bool, true, false, cond, List, [], ◌∷◌, None, refl, ap, subst, ◌∙◌, inl, inr}
use Rattle.qtt_phrase.specs.Reading.{Kind, Read}
use Rattle.qtt_phrase.specs.Reading.Read.{got, bad, over}
use Rattle.qtt_phrase.proofs.Chained.{nothing}
use Rattle.qtt_phrase.proofs.Whole.{over_settles, bad_settles_none, got_settles_none}
use Rattle.qtt_syntax.specs.Tree.{Module}
use Rattle.qtt_grammar.specs.declared.class.Pass.TheVariants.{Counts}
use Rattle.qtt_grammar.specs.declared.stop.Excess.{Excess}
use Rattle.qtt_grammar.specs.declared.lexeme.Lexeme.{Lexeme}
use Rattle.qtt_grammar.specs.Grammar.{IsText}
use Rattle.qtt_grammar.specs.Chain.{IsChained}
use Rattle.qtt_grammar.specs.ChainReaders.{text_chain_at}
use Rattle.qtt_grammar.specs.Readers.{text_at}
use Rattle.qtt_grammar.specs.Joined.{joined, outcome_of, read_whole}
use Rattle.qtt_grammar.specs.Outcome.{Outcome, is_before, Passes, Exceeds, Never, HasOutcome}
use Rattle.qtt_grammar.specs.Outcome.Outcome.{tree, passed, stopped}
use Rattle.qtt_grammar.proofs.Texts.{nowhere, elsewhere, apart_from, one_tree, settled_once, settled_alike, first_bad_once, text_found, got_first_bad, got_within, bad_first_bad, bad_within, over_passes, no_text, long_none, bad_none}
use Rattle.qtt_grammar.proofs.ChainModules.{chained_exact, chained_some}

-- ---- what the reader of chains tells

exceeds_over : (ls : List Lexeme) (e : Excess) (rest : List Lexeme) → text_chain_at ls ≡ over e rest → Exceeds ls e
exceeds_over ls e rest h =
    over_settles IsChained nothing text_chain_at (chained_exact nowhere) (chained_some nowhere) ls e rest h

exceeds_got : (ls : List Lexeme) (a : Unit {0}) (rest : List Lexeme) → text_chain_at ls ≡ got a rest →
    Never (Exceeds ls)
exceeds_got ls a rest h e st =
    got_settles_none IsChained nothing text_chain_at (chained_exact nowhere) (chained_some nowhere) ls a rest e h
    st

exceeds_bad : (ls : List Lexeme) (k : Kind) (rest : List Lexeme) → text_chain_at ls ≡ bad k rest → Never (Exceeds ls)
exceeds_bad ls k rest h e st =
    bad_settles_none IsChained nothing text_chain_at (chained_exact (elsewhere e.place))
    (chained_some (elsewhere e.place)) ls k rest e h (apart_from e.place) st

pub exceeds_once : (ls : List Lexeme) (e f : Excess) → Exceeds ls e → Exceeds ls f → e ≡ f
exceeds_once ls e f s t = settled_alike IsChained ls e f s t

-- ---- there is an outcome, which both readings tell

only_exceeds : (ls : List Lexeme) (f : Excess) (more : List Lexeme) → Never (Passes ls) →
    text_chain_at ls ≡ over f more → HasOutcome ls (passed f)
only_exceeds ls f more never h = inr (exceeds_over ls f more h, λ e s. absurd (never e s))

only_passes : (ls : List Lexeme) (e : Excess) → Passes ls e → Never (Exceeds ls) → HasOutcome ls (passed e)
only_passes ls e s never = inl (s, λ f t. absurd (never f t))

earlier : (ls : List Lexeme) (e f : Excess) (rest more : List Lexeme) → Passes ls e → Exceeds ls f →
    (b : Bool) → is_before e.place f.place ≡ b → HasOutcome ls (outcome_of (cond b (over e rest) (over f more)))
earlier ls e f rest more s t true h =
    inl (s, λ g u. ap (λ (z : Excess). is_before e.place z.place) (exceeds_once ls g f u t) ∙ h)
earlier ls e f rest more s t false h =
    inr (t, λ g u. ap (λ (z : Excess). is_before z.place f.place) (settled_once Counts ls g e u s) ∙ h)

text_outcome : (ls : List Lexeme) (t : Module) (rest : List Lexeme) → text_at Counts ls ≡ got t rest →
    Never (Exceeds ls) → HasOutcome ls (outcome_of (got t rest))
text_outcome ls t [] e never = (text_found Counts ls t e, never)
text_outcome ls t (x ∷ rest) e never = (
  got_first_bad Counts ls t x rest e,
  got_within Counts ls t (x ∷ rest) e,
  never,
  no_text Counts ls (got t (x ∷ rest)) e (long_none t x rest),
)

bad_outcome : (ls : List Lexeme) (k : Kind) (rest : List Lexeme) → text_at Counts ls ≡ bad k rest →
    Never (Exceeds ls) → HasOutcome ls (stopped rest)
bad_outcome ls k rest e never = (
  bad_first_bad Counts ls k rest e,
  bad_within Counts ls k rest e,
  never,
  no_text Counts ls (bad k rest) e (bad_none k rest),
)

outcome_by : (ls : List Lexeme) (r : Read Lexeme Excess Module) (q : Read Lexeme Excess (Unit {0})) →
    text_at Counts ls ≡ r → text_chain_at ls ≡ q → HasOutcome ls (outcome_of (joined r q))
outcome_by ls (got t rest) (over f more) e h = only_exceeds ls f more (got_within Counts ls t rest e) h
outcome_by ls (got t rest) (got a more) e h = text_outcome ls t rest e (exceeds_got ls a more h)
outcome_by ls (got t rest) (bad k more) e h = text_outcome ls t rest e (exceeds_bad ls k more h)
outcome_by ls (bad k rest) (over f more) e h = only_exceeds ls f more (bad_within Counts ls k rest e) h
outcome_by ls (bad k rest) (got a more) e h = bad_outcome ls k rest e (exceeds_got ls a more h)
outcome_by ls (bad k rest) (bad c more) e h = bad_outcome ls k rest e (exceeds_bad ls c more h)
outcome_by ls (over e rest) (over f more) h k =
    earlier ls e f rest more (over_passes Counts ls e rest h) (exceeds_over ls f more k)
    (is_before e.place f.place) refl
outcome_by ls (over e rest) (got a more) h k =
    only_passes ls e (over_passes Counts ls e rest h) (exceeds_got ls a more k)
outcome_by ls (over e rest) (bad c more) h k =
    only_passes ls e (over_passes Counts ls e rest h) (exceeds_bad ls c more k)

pub outcome_is_read : (ls : List Lexeme) → HasOutcome ls (outcome_of (read_whole ls))
outcome_is_read ls = outcome_by ls (text_at Counts ls) (text_chain_at ls) refl refl

alone_by : (ls : List Lexeme) (r : Read Lexeme Excess Module) (q : Read Lexeme Excess (Unit {0})) →
    text_chain_at ls ≡ q → Never (Exceeds ls) → joined r q ≡ r
alone_by ls r (over f more) h never = absurd (never f (exceeds_over ls f more h))
alone_by ls (got t rest) (got a more) h never = refl
alone_by ls (got t rest) (bad k more) h never = refl
alone_by ls (bad c rest) (got a more) h never = refl
alone_by ls (bad c rest) (bad k more) h never = refl
alone_by ls (over e rest) (got a more) h never = refl
alone_by ls (over e rest) (bad k more) h never = refl

-- where no index or field is one too many, the other limits decide
pub read_alone : (ls : List Lexeme) → Never (Exceeds ls) → read_whole ls ≡ text_at Counts ls
read_alone ls never = alone_by ls (text_at Counts ls) (text_chain_at ls) refl never

-- ---- there is one

passes_none : (ls : List Lexeme) (t : Module) (e : Excess) → IsText Counts ls t None → Passes ls e → ⊥
passes_none ls t e m s = let h =
    s.each s.rest t None (subst (λ (z : List Lexeme). IsText Counts z t None) s.parts m) in cc

same_passed : (ls : List Lexeme) (e f : Excess) → HasOutcome ls (passed e) → HasOutcome ls (passed f) → e ≡ f
same_passed ls e f (inl (s, h)) (inl (t, k)) = settled_once Counts ls e f s t
same_passed ls e f (inr (s, h)) (inr (t, k)) = exceeds_once ls e f s t
same_passed ls e f (inl (s, h)) (inr (t, k)) = absurd (let u = h f t in let v = k e s in cc)
same_passed ls e f (inr (s, h)) (inl (t, k)) = absurd (let u = h f t in let v = k e s in cc)

tree_not_passed : (ls : List Lexeme) (t : Module) (e : Excess) → HasOutcome ls (tree t) → HasOutcome ls (passed e) → ⊥
tree_not_passed ls t e (m, never) (inl (s, h)) = passes_none ls t e m s
tree_not_passed ls t e (m, never) (inr (s, h)) = never e s

stopped_not_passed : (ls rest : List Lexeme) (e : Excess) → HasOutcome ls (stopped rest) → HasOutcome ls (passed e) → ⊥
stopped_not_passed ls rest e (b, none, never, text) (inl (s, h)) = none e s
stopped_not_passed ls rest e (b, none, never, text) (inr (s, h)) = never e s

pub same_outcome : (ls : List Lexeme) (a b : Outcome) → HasOutcome ls a → HasOutcome ls b → a ≡ b
same_outcome ls (tree t) (tree u) m n = ap tree (one_tree Counts ls t u m.0 n.0)
same_outcome ls (tree t) (passed e) m n = absurd (tree_not_passed ls t e m n)
same_outcome ls (tree t) (stopped rest) m n = absurd (n.3 t None m.0)
same_outcome ls (passed e) (tree t) m n = absurd (tree_not_passed ls t e n m)
same_outcome ls (passed e) (passed f) m n = ap passed (same_passed ls e f m n)
same_outcome ls (passed e) (stopped rest) m n = absurd (stopped_not_passed ls rest e n m)
same_outcome ls (stopped rest) (tree t) m n = absurd (m.3 t None n.0)
same_outcome ls (stopped rest) (passed e) m n = absurd (stopped_not_passed ls rest e m n)
same_outcome ls (stopped rest) (stopped more) m n = ap stopped (first_bad_once Counts ls rest more m.0 n.0)

pub one_outcome : (ls : List Lexeme) → (a : Outcome) × HasOutcome ls a × ((b : Outcome) → HasOutcome ls b → a ≡ b)
one_outcome ls = (
  outcome_of (read_whole ls),
  outcome_is_read ls,
  λ b h. same_outcome ls (outcome_of (read_whole ls)) b (outcome_is_read ls) h,
)
