-- Patterns as they are told and as the printer writes them.
use Rattle.std.proofs.Common.{◌≡◌, ℕ, List, [], ◌∷◌, ◌++◌, codes, refl, ap, sym, ◌∙◌, append_assoc}
use Rattle.std.proofs.lemmas.List.{append-nil}
use Rattle.qtt_syntax.specs.Tree.{Shape, Shapes}
use Rattle.qtt_syntax.specs.Tree.Shape.{variable, wildcard, constructor, dot}
use Rattle.qtt_syntax.specs.Tree.Shapes.{no_shape, shape_and}
use Rattle.qtt_syntax.specs.Words.Printed.{word}
use Rattle.qtt_syntax.specs.Words.Word.{named}
use Rattle.qtt_syntax.specs.Words.{Printed, written, written_as}
use Rattle.qtt_syntax.specs.Printing.{pattern, patterns, key, bracketed, is_empty}
use Rattle.qtt_core_print.specs.Names.{unqualified}
use Rattle.qtt_diag.specs.Laws.{PatternsAsPrinted}
use Rattle.qtt_diag.specs.Patterns.{constructed, pattern_text, patterns_text, shown, shown_all}

written-append : (ps qs : List Printed) → written (ps ++ qs) ≡ written ps ++ written qs
written-append [] qs = refl
written-append (p ∷ ps) qs =
    ap (λ (v : List ℕ). written_as p ++ v) (written-append ps qs) ∙
    sym (append_assoc (written_as p) (written ps) (written qs))

constructed-printed :
    (n : List ℕ) (ps : Shapes) → patterns_text ps ≡ written (patterns (shown_all ps)) →
    constructed n (patterns_text ps)
    ≡ written (bracketed (is_empty (shown_all ps)) (word (named n) ∷ patterns (shown_all ps)))
constructed-printed n no_shape e = sym (append-nil n)
constructed-printed n (shape_and p more) e =
    ap (λ (v : List ℕ). 40 ∷ ((n ++ v) ++ 41 ∷ [])) e ∙
    ap (λ (v : List ℕ). 40 ∷ v)
    (append_assoc n (written (patterns (shown_all (shape_and p more)))) (41 ∷ [])) ∙
    ap (λ (v : List ℕ). 40 ∷ (n ++ v))
    (sym (written-append (patterns (shown_all (shape_and p more))) (key (codes ")") ∷ [])))

mutual
  pattern-printed : (p : Shape) → pattern_text p ≡ written (pattern (shown p))
  pattern-printed (variable k n s) = refl
  pattern-printed (wildcard k s) = refl
  pattern-printed (constructor k h ps s) = constructed-printed (unqualified h.path) ps (patterns-printed ps)
  pattern-printed (dot k t s) = refl

  patterns-printed : (ps : Shapes) → patterns_text ps ≡ written (patterns (shown_all ps))
  patterns-printed no_shape = refl
  patterns-printed (shape_and p more) =
      ap (λ (v : List ℕ). 32 ∷ (v ++ patterns_text more)) (pattern-printed p) ∙
      ap (λ (v : List ℕ). 32 ∷ (written (pattern (shown p)) ++ v)) (patterns-printed more) ∙
      ap (λ (v : List ℕ). 32 ∷ v) (sym (written-append (pattern (shown p)) (patterns (shown_all more))))

pub as_printed : PatternsAsPrinted
as_printed = record { one = pattern-printed; all = patterns-printed }
