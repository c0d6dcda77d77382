-- Patterns.
use Rattle.std.proofs.Common.{◌≡◌, ◌∙◌, List, [], ◌∷◌, map, length, Vec, Global, ap, sym, refl, arith, None}
use Rattle.qtt_base.specs.declared.place.Span.{Span}
use Rattle.qtt_syntax.specs.declared.expr.Mark.TheVariants.{Written}
use Rattle.qtt_syntax.specs.declared.expr.Named.{Named}
use Rattle.qtt_syntax.specs.declared.pattern.Pattern.{Pattern}
use Rattle.qtt_syntax.specs.declared.pattern.Pattern.TheVariants as code
use Rattle.qtt_syntax.specs.Tree.{Shape, shapes}
use Rattle.qtt_syntax.specs.Tree.Shape.{constructor}
use Rattle.qtt_syntax.specs.View.{shape_of}
use Rattle.qtt_syntax.proofs.Rows.{constructor_view}
use Rattle.qtt_phrase.specs.Reading.{token_at, making_at}
use Rattle.qtt_phrase.specs.Reading.Read.{got}
use Rattle.qtt_grammar.specs.declared.lexeme.Lexeme.{Lexeme}
use Rattle.qtt_grammar.specs.Classes.{is_constructor}
use Rattle.qtt_grammar.specs.Grammar.{of, named_of, bare_of, group_of}
use Rattle.qtt_grammar.specs.Readers.{Reads}

abbrev pub head_read : Reads Named
head_read = token_at (λ _. None) (of is_constructor) named_of

-- a constructor without brackets
pub bare_got : (ls : List Lexeme) (h : Named) (r : List Lexeme) (v : Vec Pattern Global) →
    head_read ls ≡ got h r → v.items ≡ [] →
    making_at bare_of head_read ls ≡ got (shape_of (code.Constructor Written h v h.span)) r
bare_got ls h r v k e = rw k
    (ap (λ (z : Shape). got z r)
    (sym (constructor_view Written h v h.span ∙
    ap (λ (xs : List Pattern). constructor Written h (shapes (map shape_of xs)) h.span) e)))

empty_group : (h : Named) (xs : List Pattern) (s : Span) → length xs ≡ 0 →
    constructor Written h (shapes (map shape_of xs)) h.span ≡ group_of (h, map shape_of xs) s
empty_group h [] s e = refl
empty_group h (x ∷ xs) s e = absurd (omega (arith, e))

some_group : (h : Named) (xs : List Pattern) (s : Span) →
    (length xs ≡ 0 → ⊥) → constructor Written h (shapes (map shape_of xs)) s ≡ group_of (h, map shape_of xs) s
some_group h [] s e = absurd (e refl)
some_group h (x ∷ xs) s e = refl

pub group_empty : (h : Named) (v : Vec Pattern Global) (s : Span) → length v.items ≡ 0 →
    shape_of (code.Constructor Written h v h.span) ≡ group_of (h, map shape_of v.items) s
group_empty h v s e = constructor_view Written h v h.span ∙ empty_group h v.items s e

pub group_some : (h : Named) (v : Vec Pattern Global) (s : Span) →
    (length v.items ≡ 0 → ⊥) → shape_of (code.Constructor Written h v s) ≡ group_of (h, map shape_of v.items) s
group_some h v s e = constructor_view Written h v s ∙ some_group h v.items s e
