-- What `parsed` answers is what the grammar's relation has.
use Rattle.std.proofs.Common.{◌≡◌, ◌∙◌, List, [], ◌∷◌, None, Result, Ok, Err, refl, sym, ap, subst}
use Rattle.qtt_lexer.specs.Lexed.{Mistake}
use Rattle.qtt_syntax.specs.Tree.{Module}
use Rattle.qtt_phrase.specs.Reading.{Kind, Read}
use Rattle.qtt_phrase.specs.Reading.Kind.{unexpected, too_deep}
use Rattle.qtt_phrase.specs.Reading.Read.{got, bad, over}
use Rattle.qtt_grammar.specs.declared.class.Pass.TheVariants.{Counts}
use Rattle.qtt_grammar.specs.declared.lexeme.Lexeme.{Lexeme}
use Rattle.qtt_grammar.specs.declared.stop.Excess.{Excess}
use Rattle.qtt_grammar.specs.Joined.{outcome_of, read_whole}
use Rattle.qtt_grammar.specs.Outcome.{HasOutcome}
use Rattle.qtt_grammar.specs.Outcome.Outcome.{tree, passed, stopped}
use Rattle.qtt_grammar.specs.Parsed.{bad_token, above, whole, HasKind}
use Rattle.qtt_grammar.specs.Readers.{text_at}
use Rattle.qtt_grammar.proofs.BadTokens.{bad_has_kind, long_has_kind, one_front, one_kind}
use Rattle.qtt_grammar.proofs.Outcomes.{outcome_is_read, read_alone, same_outcome}
use Rattle.qtt_grammar.proofs.Texts.{first_bad_once}
use Rattle.qtt_reading_laws.specs.FirstFault.{IsTreeOf, IsFirstBad, IsFirstFault, HasOneAnswer}
use Rattle.qtt_reading_laws.specs.FirstFault.IsFirstFault.{limit, unexpected_token, deep_token}
use Rattle.qtt_reading_laws.specs.FirstFault.HasOneAnswer.{one_tree, one_fault}

abbrev TextRead : Type 0
TextRead = Read Lexeme Excess Module

abbrev Told : Type 0
Told = Result Module Mistake

-- ---- what was read, by what is told

whole_got : (r : TextRead) (t : Module) → whole r ≡ Ok t → r ≡ got t []
whole_got (got u []) t e = (let h : u ≡ t = (let g = e in cc) in ap (λ (v : Module). got v []) h)
whole_got (got u (x ∷ ls)) t e = absurd (let g = e in cc)
whole_got (bad k ls) t e = absurd (let g = e in cc)
whole_got (over f ls) t e = absurd (let g = e in cc)

outcome_tree : (r : TextRead) (t : Module) → outcome_of r ≡ tree t → whole r ≡ Ok t
outcome_tree (got u []) t e = (let h : u ≡ t = (let g = e in cc) in ap (λ (v : Module). Ok v) h)
outcome_tree (got u (x ∷ ls)) t e = absurd (let g = e in cc)
outcome_tree (bad k ls) t e = absurd (let g = e in cc)
outcome_tree (over f ls) t e = absurd (let g = e in cc)

same_mistake : (m n : Mistake) → ◌≡◌ {A = Told} (Err m) (Err n) → n ≡ m
same_mistake m n e = (let h = e in cc)

-- ---- trees

pub tree_read : (ls : List Lexeme) (t : Module) → whole (read_whole ls) ≡ Ok t → IsTreeOf ls t
tree_read ls t e =
    let h : HasOutcome ls (tree t) =
    subst (λ (r : TextRead). HasOutcome ls (outcome_of r)) (whole_got (read_whole ls) t e) (outcome_is_read ls) in
    record { text = h.0; within = h.1 }

pub tree_told : (ls : List Lexeme) (t : Module) → IsTreeOf ls t → whole (read_whole ls) ≡ Ok t
tree_told ls t h =
    outcome_tree (read_whole ls) t
    (same_outcome ls (outcome_of (read_whole ls)) (tree t) (outcome_is_read ls) (h.text, h.within))

-- ---- faults

-- the first fault, with one case for each bad token
data Fault (ls : List Lexeme) (m : Mistake) : Type 0 where
  by_limit : (e : Excess) → HasOutcome ls (passed e) → m ≡ above e → Fault ls m
  by_token : (kind : Kind) (rest : List Lexeme) → IsFirstBad kind ls rest → m ≡ bad_token kind rest → Fault ls m

to_fault : (ls : List Lexeme) (m : Mistake) → IsFirstFault ls m → Fault ls m
to_fault ls m (limit e h same) = by_limit e h same
to_fault ls m (unexpected_token rest b same) = by_token unexpected rest b same
to_fault ls m (deep_token x rest b same) = by_token too_deep (x ∷ rest) b same

from_fault : (ls : List Lexeme) (m : Mistake) → Fault ls m → IsFirstFault ls m
from_fault ls m (by_limit e h same) = limit e h same
from_fault ls m (by_token unexpected rest b same) = unexpected_token rest b same
from_fault ls m (by_token too_deep [] b same) = absurd (let (x, r, e, s) = b.why in cc)
from_fault ls m (by_token too_deep (x ∷ rest) b same) = deep_token x rest b same

-- the tokens stop there
stops_at : (kind : Kind) (ls rest : List Lexeme) → IsFirstBad kind ls rest → HasOutcome ls (stopped rest)
stops_at kind ls rest b = (b.bad, b.none_passed, b.none_exceeds, b.no_text)

bad_at : (kind : Kind) (ls rest : List Lexeme) (h : HasOutcome ls (stopped rest)) → HasKind kind h.0.front rest →
    IsFirstBad kind ls rest
bad_at kind ls rest h k = record { bad = h.0; why = k; none_passed = h.1; none_exceeds = h.2; no_text = h.3 }

-- what stands before a bad token is read alike
text_reads : (ls rest : List Lexeme) (r : TextRead) → read_whole ls ≡ r → HasOutcome ls (stopped rest) →
    text_at Counts ls ≡ r
text_reads ls rest r e h = sym (read_alone ls h.2) ∙ e

fault_by : (ls : List Lexeme) (m : Mistake) (r : TextRead) → read_whole ls ≡ r → HasOutcome ls (outcome_of r) →
    whole r ≡ Err m → Fault ls m
fault_by ls m (got t []) e h g = absurd (let w = g in cc)
fault_by ls m (got t (x ∷ rest)) e h g =
    by_token unexpected (x ∷ rest)
    (bad_at unexpected ls (x ∷ rest) h
    (long_has_kind ls h.0.front t x rest h.0.parts (text_reads ls (x ∷ rest) (got t (x ∷ rest)) e h)))
    (same_mistake (bad_token unexpected (x ∷ rest)) m g)
fault_by ls m (bad k rest) e h g =
    by_token k rest
    (bad_at k ls rest h (bad_has_kind k ls h.0.front rest h.0.parts (text_reads ls rest (bad k rest) e h)))
    (same_mistake (bad_token k rest) m g)
fault_by ls m (over f rest) e h g = by_limit f h (same_mistake (above f) m g)

fault_read : (ls : List Lexeme) (m : Mistake) → whole (read_whole ls) ≡ Err m → Fault ls m
fault_read ls m e = fault_by ls m (read_whole ls) refl (outcome_is_read ls) e

-- ---- there is one

same_kind : (k j : Kind) (ls rest : List Lexeme) → IsFirstBad k ls rest → IsFirstBad j ls rest → k ≡ j
same_kind k j ls rest b c =
    let same : b.bad.front ≡ c.bad.front =
    one_front b.bad.front c.bad.front rest (sym b.bad.parts ∙ c.bad.parts) in
    one_kind k j c.bad.front rest (subst (λ (z : List Lexeme). HasKind k z rest) same b.why) c.why

same_token : (k j : Kind) (ls rest more : List Lexeme) → IsFirstBad k ls rest → IsFirstBad j ls more →
    bad_token k rest ≡ bad_token j more
same_token k j ls rest more b c =
    let e : rest ≡ more = first_bad_once Counts ls rest more b.bad c.bad in
    let h : IsFirstBad k ls more = subst (λ (z : List Lexeme). IsFirstBad k ls z) e b in
    ap (λ (z : List Lexeme). bad_token k z) e ∙ ap (λ (z : Kind). bad_token z more) (same_kind k j ls more h c)

same_limit : (ls : List Lexeme) (e f : Excess) → HasOutcome ls (passed e) → HasOutcome ls (passed f) → e ≡ f
same_limit ls e f h k = let g = same_outcome ls (passed e) (passed f) h k in cc

limit_or_token : (kind : Kind) (ls rest : List Lexeme) (e : Excess) → HasOutcome ls (passed e) →
    IsFirstBad kind ls rest → ⊥
limit_or_token kind ls rest e h b =
    let g = same_outcome ls (passed e) (stopped rest) h (stops_at kind ls rest b) in cc

same_fault : (ls : List Lexeme) (m n : Mistake) → Fault ls m → Fault ls n → m ≡ n
same_fault ls m n (by_limit e h p) (by_limit f k q) = p ∙ ap above (same_limit ls e f h k) ∙ sym q
same_fault ls m n (by_limit e h p) (by_token j more c q) = absurd (limit_or_token j ls more e h c)
same_fault ls m n (by_token k rest b p) (by_limit f h q) = absurd (limit_or_token k ls rest f h b)
same_fault ls m n (by_token k rest b p) (by_token j more c q) = p ∙ same_token k j ls rest more b c ∙ sym q

tree_or_fault : (ls : List Lexeme) (t : Module) (m : Mistake) → IsTreeOf ls t → Fault ls m → ⊥
tree_or_fault ls t m h (by_limit e k same) =
    let g = same_outcome ls (tree t) (passed e) (h.text, h.within) k in cc
tree_or_fault ls t m h (by_token kind rest b same) = b.no_text t None h.text

told_by : (ls : List Lexeme) (m : Mistake) (told : Told) → whole (read_whole ls) ≡ told → Fault ls m → told ≡ Err m
told_by ls m (Ok t) e h = absurd (tree_or_fault ls t m (tree_read ls t e) h)
told_by ls m (Err n) e h = ap (λ (z : Mistake). Err z) (same_fault ls n m (fault_read ls n e) h)

pub first_read : (ls : List Lexeme) (m : Mistake) → whole (read_whole ls) ≡ Err m → IsFirstFault ls m
first_read ls m e = from_fault ls m (fault_read ls m e)

pub first_told : (ls : List Lexeme) (m : Mistake) → IsFirstFault ls m → whole (read_whole ls) ≡ Err m
first_told ls m h = told_by ls m (whole (read_whole ls)) refl (to_fault ls m h)

answer_by : (ls : List Lexeme) (told : Told) → whole (read_whole ls) ≡ told → HasOneAnswer ls
answer_by ls (Ok t) e =
    one_tree t (tree_read ls t e) (λ u h. let g = sym (tree_told ls u h) ∙ e in cc)
    (λ m h. tree_or_fault ls t m (tree_read ls t e) (to_fault ls m h))
answer_by ls (Err m) e =
    one_fault m (first_read ls m e) (λ n h. same_fault ls n m (to_fault ls n h) (fault_read ls m e))
    (λ t h. tree_or_fault ls t m h (fault_read ls m e))

pub one_answer : (ls : List Lexeme) → HasOneAnswer ls
one_answer ls = answer_by ls (whole (read_whole ls)) refl
