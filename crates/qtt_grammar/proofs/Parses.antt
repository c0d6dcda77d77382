-- What an answer says of tokens.
use Rattle.std.proofs.Common.{◌≡◌, ◌∙◌, List, [], ◌∷◌, ◌++◌, None, Result, Ok, Err, sym, ap, subst, refl}
use Rattle.std.specs.Prelude.{IfOk, IfErr}
use Rattle.qtt_lexer.specs.Lexed.{Mistake, seen}
use Rattle.qtt_syntax.specs.declared.module.ModuleText.{ModuleText}
use Rattle.qtt_syntax.specs.Tree.{Module}
use Rattle.qtt_syntax.specs.View.{module_of}
use Rattle.qtt_phrase.specs.Phrase.{FirstBad}
use Rattle.qtt_phrase.specs.Reading.{Kind, Read}
use Rattle.qtt_phrase.specs.Reading.Kind.{unexpected}
use Rattle.qtt_phrase.specs.Reading.Read.{got, bad, over}
use Rattle.qtt_grammar.specs.declared.class.Pass.TheVariants.{Counts}
use Rattle.qtt_grammar.specs.declared.errors.GrammarError.{GrammarError}
use Rattle.qtt_grammar.specs.declared.errors.GrammarError.TheVariants as errors
use Rattle.qtt_grammar.specs.declared.lexeme.Lexeme.{Lexeme}
use Rattle.qtt_grammar.specs.declared.stop.Excess.{Excess}
use Rattle.qtt_grammar.specs.Grammar.{IsText}
use Rattle.qtt_grammar.specs.Readers.{text_at}
use Rattle.qtt_grammar.specs.Parsed.{bad_token, above, whole, Gives, HasKind, IsWithin, IsFault, KeepsFault}
use Rattle.qtt_grammar.specs.Parsed.IsFault.{passes_limit, has_bad_token}
use Rattle.qtt_grammar.proofs.BadTokens.{bad_has_kind, long_has_kind, one_front, one_kind}
use Rattle.qtt_grammar.specs.Outcome.{Exceeds, Never, HasOutcome}
use Rattle.qtt_grammar.specs.Outcome.Outcome.{tree, passed, stopped}
use Rattle.qtt_grammar.specs.Joined.{outcome_of, read_whole}
use Rattle.qtt_grammar.proofs.Texts.{text_found, got_first_bad, bad_first_bad, over_passes, first_bad_once}
use Rattle.qtt_grammar.proofs.Outcomes.{outcome_is_read, read_alone, same_outcome}

abbrev TextRead : Type 0
TextRead = Read Lexeme Excess Module

whole_ok : (r : TextRead) (t : Module) → whole r ≡ Ok t → r ≡ got t []
whole_ok (got u []) t e = (let h : u ≡ t = (let g = e in cc) in ap (λ (v : Module). got v []) h)
whole_ok (got u (x ∷ ls)) t e = absurd (let g = e in cc)
whole_ok (bad k ls) t e = absurd (let g = e in cc)
whole_ok (over f ls) t e = absurd (let g = e in cc)

outcome_tree : (r : TextRead) (t : Module) → outcome_of r ≡ tree t → whole r ≡ Ok t
outcome_tree (got u []) t e = (let h : u ≡ t = (let g = e in cc) in ap (λ (v : Module). Ok v) h)
outcome_tree (got u (x ∷ ls)) t e = absurd (let g = e in cc)
outcome_tree (bad k ls) t e = absurd (let g = e in cc)
outcome_tree (over f ls) t e = absurd (let g = e in cc)

outcome_passed : (r : TextRead) (e : Excess) → outcome_of r ≡ passed e → whole r ≡ Err (above e)
outcome_passed (got u []) e h = absurd (let g = h in cc)
outcome_passed (got u (x ∷ ls)) e h = absurd (let g = h in cc)
outcome_passed (bad k ls) e h = absurd (let g = h in cc)
outcome_passed (over f ls) e h = (let same : f ≡ e = (let g = h in cc) in ap (λ (v : Excess). Err (above v)) same)

-- what is read has the outcome
read_outcome : (ls : List Lexeme) (r : TextRead) → read_whole ls ≡ r → HasOutcome ls (outcome_of r)
read_outcome ls r e = subst (λ (q : TextRead). HasOutcome ls (outcome_of q)) e (outcome_is_read ls)

-- the answer is the tree of a text
pub text_told : (ls : List Lexeme) (result : Result ModuleText GrammarError) →
    Gives result (whole (read_whole ls)) →
    IfOk result (λ t. IsText Counts ls (module_of t) None × Never (Exceeds ls))
text_told ls (Ok t) g = read_outcome ls (got (module_of t) []) (whole_ok (read_whole ls) (module_of t) g)
text_told ls (Err e) g = tt

module _ (ls : List Lexeme) (result : Result ModuleText GrammarError) (g : Gives result (whole (read_whole ls))) where
  told : (m : Result Module Mistake) → whole (read_whole ls) ≡ m → Gives result m
  told m e = subst (λ (q : Result Module Mistake). Gives result q) e g

  -- a text is told by its tree
  pub tree_told : (t : Module) → IsText Counts ls t None → Never (Exceeds ls) → Gives result (Ok t)
  tree_told t m never = told (Ok t)
      (outcome_tree (read_whole ls) t
      (same_outcome ls (outcome_of (read_whole ls)) (tree t) (outcome_is_read ls) (m, never)))

  -- the limit that is passed first is told
  pub limit_told : (e : Excess) → HasOutcome ls (passed e) → Gives result (Err (above e))
  limit_told e h = told (Err (above e))
      (outcome_passed (read_whole ls) e
      (same_outcome ls (outcome_of (read_whole ls)) (passed e) (outcome_is_read ls) h))

  same_bad : (kind k : Kind) (rest more : List Lexeme) → k ≡ kind → more ≡ rest →
      Gives result (Err (bad_token k more)) → Gives result (Err (bad_token kind rest))
  same_bad kind k rest more e f h =
      subst (λ (x : List Lexeme). Gives result (Err (bad_token kind x))) f
      (subst (λ (x : Kind). Gives result (Err (bad_token x more))) e h)

  module _ (kind : Kind) (rest : List Lexeme) (d : FirstBad (IsText Counts) ls rest)
      (has : HasKind kind d.front rest) (within : IsWithin ls) (none : (t : Module) → IsText Counts ls t None → ⊥)
    where
      kind_is : (k : Kind) (more : List Lexeme) (f : FirstBad (IsText Counts) ls more) → more ≡ rest →
          HasKind k f.front more → k ≡ kind
      kind_is k more f e h =
          let h2 : HasKind k f.front rest = subst (λ (z : List Lexeme). HasKind k f.front z) e h in
          let same : f.front ≡ d.front =
          one_front f.front d.front rest (sym (f.parts ∙ ap (λ (z : List Lexeme). f.front ++ z) e) ∙ d.parts) in
          one_kind k kind d.front rest (subst (λ (z : List Lexeme). HasKind k z rest) same h2) has

      bad_is : (k : Kind) (more : List Lexeme) (f : FirstBad (IsText Counts) ls more) → HasKind k f.front more →
          Gives result (Err (bad_token k more)) → Gives result (Err (bad_token kind rest))
      bad_is k more f h told =
          let e = first_bad_once Counts ls more rest f d in
          same_bad kind k rest more (kind_is k more f e h) e told

      bad_by : (r : TextRead) → text_at Counts ls ≡ r → Gives result (whole r) →
          Gives result (Err (bad_token kind rest))
      bad_by (got t []) h told = absurd (none t (text_found Counts ls t h))
      bad_by (got t (x ∷ more)) h told = let f =
          got_first_bad Counts ls t x more h in bad_is unexpected (x ∷ more) f
          (long_has_kind ls f.front t x more f.parts h) told
      bad_by (bad k more) h told = let f =
          bad_first_bad Counts ls k more h in bad_is k more f (bad_has_kind k ls f.front more f.parts h) told
      bad_by (over e more) h told = absurd (within.0 e (over_passes Counts ls e more h))

      -- the first bad token is told
      pub bad_told : Gives result (Err (bad_token kind rest))
      bad_told = bad_by (text_at Counts ls) refl
          (subst (λ (q : TextRead). Gives result (whole q)) (read_alone ls within.1) g)

same_mistake : (m n : Mistake) → ◌≡◌ {A = Result Module Mistake} (Err m) (Err n) → n ≡ m
same_mistake m n e = (let h = e in cc)

-- what stands before a bad token is read alike
text_reads : (ls rest : List Lexeme) (r : TextRead) → read_whole ls ≡ r → HasOutcome ls (stopped rest) →
    text_at Counts ls ≡ r
text_reads ls rest r e h = sym (read_alone ls h.2) ∙ e

fault_by : (ls : List Lexeme) (m : Mistake) (r : TextRead) → read_whole ls ≡ r → HasOutcome ls (outcome_of r) →
    whole r ≡ Err m → IsFault ls m
fault_by ls m (got t []) e h g = absurd (let w = g in cc)
fault_by ls m (got t (x ∷ rest)) e h g =
    has_bad_token unexpected (x ∷ rest) h.0
    (long_has_kind ls h.0.front t x rest h.0.parts (text_reads ls (x ∷ rest) (got t (x ∷ rest)) e h)) (h.1, h.2)
    (same_mistake (bad_token unexpected (x ∷ rest)) m g)
fault_by ls m (bad k rest) e h g =
    has_bad_token k rest h.0 (bad_has_kind k ls h.0.front rest h.0.parts (text_reads ls rest (bad k rest) e h))
    (h.1, h.2) (same_mistake (bad_token k rest) m g)
fault_by ls m (over f rest) e h g = passes_limit f h (same_mistake (above f) m g)

-- a fault is a limit that is passed, or a first bad token
pub fault_told : (ls : List Lexeme) (result : Result ModuleText GrammarError) →
    Gives result (whole (read_whole ls)) → IfErr result (KeepsFault ls)
fault_told ls (Ok t) g = tt
fault_told ls (Err errors.Memory) g = tt
fault_told ls (Err (errors.Fault f)) g = fault_by ls (seen f) (read_whole ls) refl (outcome_is_read ls) g
