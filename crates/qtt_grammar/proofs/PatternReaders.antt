-- Patterns in brackets, and at the limit.
use Rattle.std.proofs.Common.{◌≡◌, ◌∙◌, ℕ, suc, ◌<◌, ◌-◌, true, false, List, sym, subst, refl}
use Rattle.std.specs.Prelude.{nat_lt}
use Rattle.qtt_base.specs.declared.place.Span.{Span}
use Rattle.qtt_base.specs.declared.limits.Quantity.TheVariants as quantity
use Rattle.qtt_syntax.specs.declared.expr.Named.{Named}
use Rattle.qtt_syntax.specs.Tree.{Shape}
use Rattle.qtt_phrase.specs.Reading.{begins, cap_at, counted_at}
use Rattle.qtt_phrase.specs.Reading.Read.{got}
use Rattle.qtt_grammar.specs.declared.class.Pass.{Pass}
use Rattle.qtt_grammar.specs.declared.lexeme.Lexeme.{Lexeme}
use Rattle.qtt_grammar.specs.declared.stop.Stop.{Stop}
use Rattle.qtt_grammar.specs.declared.stop.Stop.TheVariants as stop
use Rattle.qtt_grammar.specs.Classes.{is_constructor, is_left_paren, is_right_paren, starts_pattern}
use Rattle.qtt_grammar.specs.Grammar.{of, group_of, nested_of}
use Rattle.qtt_grammar.specs.Limits.{is_full, one_above}
use Rattle.qtt_grammar.specs.Readers.{Reads, LevelReader, symbol_at, opener_at, pattern_starts, bad_pattern_start, one_pattern_at, patterns_at, inside_at, bracketed_at, pattern_at, level_at, levels_at}
use Rattle.qtt_grammar.specs.View.{Fails, below, inside}
use Rattle.qtt_grammar.proofs.Below.{below_is, level_is}
use Rattle.qtt_grammar.proofs.PatternTrees.{head_read}

full_pattern : (pass : Pass) (L : LevelReader) (m : ℕ) (ls : List Lexeme) (e : Stop) →
    is_full pass quantity.Parts m ≡ true →
    Fails {A = Shape} e (cap_at L.starts_pattern L.bad_pattern (λ x. one_above quantity.Parts x.place) ls) →
    Fails e (one_pattern_at pass L m ls)
full_pattern pass L m ls e k w = rw k w

-- as many patterns stand before as may
pub pattern_full : (pass : Pass) (n m : ℕ) (ls : List Lexeme) (e : Stop) → is_full pass quantity.Parts m ≡ true →
    Fails {A = Shape} e (cap_at (λ x. pattern_starts (nat_lt 0 n) x.class)
    (λ x. bad_pattern_start (nat_lt 0 n) x.class) (λ x. one_above quantity.Parts x.place) ls) →
    Fails e (one_pattern_at pass (levels_at pass n) m ls)
pattern_full pass n m ls e k w =
    subst (λ (L : LevelReader). Fails e (one_pattern_at pass L m ls)) (sym (level_is pass n))
    (full_pattern pass (level_at pass (nat_lt 0 n) (below pass n)) m ls e k w)

module _ (pass : Pass) (n : ℕ) where
  other_at : (inner : LevelReader) (ls : List Lexeme) → begins (of is_constructor) ls ≡ false →
      (level_at pass (nat_lt 0 n) inner).pattern ls ≡ (level_at pass (nat_lt 0 n) inner).other_pattern ls
  unfolding pattern_at
  other_at inner ls b = rw b refl

  -- where no constructor comes first, a pattern is another one
  pub no_constructor : (ls : List Lexeme) → begins (of is_constructor) ls ≡ false →
      (levels_at pass n).pattern ls ≡ (levels_at pass n).other_pattern ls
  no_constructor ls b = subst (λ (L : LevelReader). L.pattern ls ≡ L.other_pattern ls) (sym (level_is pass n))
      (other_at (below pass n) ls b)

module _ (pass : Pass) (n : ℕ) (ls : List Lexeme) (s : Span) (r : List Lexeme) where
  -- what stands in the brackets stops
  pub bracket_stops : (e : Stop) → opener_at (nat_lt 0 n) is_left_paren ls ≡ got s r →
      Fails e (inside inside_at pass n r) → Fails e (inside bracketed_at pass n ls)
  unfolding bracketed_at
  bracket_stops stop.Memory o h = tt
  bracket_stops (stop.Bad k rest) o h = rw (o, h) refl
  bracket_stops (stop.Over x rest) o h = rw (o, h) refl

  -- no bracket closes
  pub bracket_open : (f : Span → Shape) (t : List Lexeme) (e : Stop) →
      opener_at (nat_lt 0 n) is_left_paren ls ≡ got s r → inside inside_at pass n r ≡ got f t →
      Fails {A = Span} e (symbol_at is_right_paren t) → Fails e (inside bracketed_at pass n ls)
  unfolding bracketed_at
  bracket_open f t stop.Memory o i h = tt
  bracket_open f t (stop.Bad k rest) o i h = rw (o, i, h) refl
  bracket_open f t (stop.Over x rest) o i h = rw (o, i, h) refl

  pub bracket_got : (f : Span → Shape) (t : List Lexeme) (z : Span) (w : List Lexeme) →
      opener_at (nat_lt 0 n) is_left_paren ls ≡ got s r → inside inside_at pass n r ≡ got f t →
      symbol_at is_right_paren t ≡ got z w → inside bracketed_at pass n ls ≡ got (f s) w
  unfolding bracketed_at
  bracket_got f t z w o i h = rw (o, i, h) refl

abbrev pub fields_at : Pass → ℕ → Reads (List Shape)
fields_at pass n = counted_at (λ n _. suc n) (of starts_pattern) (one_pattern_at pass (levels_at pass n)) 0

module _ (pass : Pass) (n : ℕ) (ls : List Lexeme) where
  nested_fails : (e : Stop) → begins (of is_constructor) ls ≡ false → Fails e ((below pass n).other_pattern ls) →
      Fails e (inside inside_at pass n ls)
  unfolding inside_at
  nested_fails stop.Memory b h = tt
  nested_fails (stop.Bad k rest) b h = rw (b, h) refl
  nested_fails (stop.Over x rest) b h = rw (b, h) refl

  nested_reads : (x : Shape) (t : List Lexeme) → begins (of is_constructor) ls ≡ false →
      (below pass n).other_pattern ls ≡ got x t → inside inside_at pass n ls ≡ got (nested_of x) t
  unfolding inside_at
  nested_reads x t b h = rw (b, h) refl

  nested_is : 0 < n → begins (of is_constructor) ls ≡ false →
      (levels_at pass (n - 1)).pattern ls ≡ (below pass n).other_pattern ls
  nested_is lt b = no_constructor pass (n - 1) ls b ∙
      subst (λ (L : LevelReader). L.other_pattern ls ≡ (below pass n).other_pattern ls) (below_is pass n lt) refl

  -- the pattern in the brackets stops
  pub nested_stops : (e : Stop) → 0 < n → begins (of is_constructor) ls ≡ false →
      Fails e ((levels_at pass (n - 1)).pattern ls) → Fails e (inside inside_at pass n ls)
  nested_stops e lt b h = nested_fails e b (subst (λ (x : _). Fails e x) (nested_is lt b) h)

  pub nested_got : (x : Shape) (t : List Lexeme) → 0 < n → begins (of is_constructor) ls ≡ false →
      (levels_at pass (n - 1)).pattern ls ≡ got x t → inside inside_at pass n ls ≡ got (nested_of x) t
  nested_got x t lt b h = nested_reads x t b (sym (nested_is lt b) ∙ h)

  fields_are : 0 < n → (us : List Lexeme) → fields_at pass (n - 1) us ≡ inside patterns_at pass n 0 us
  unfolding patterns_at
  fields_are lt us = rw (below_is pass n lt) refl

  group_fails : (h : Named) (t : List Lexeme) (e : Stop) → begins (of is_constructor) ls ≡ true →
      head_read ls ≡ got h t → Fails e (inside patterns_at pass n 0 t) → Fails e (inside inside_at pass n ls)
  unfolding inside_at
  group_fails h t stop.Memory b c w = tt
  group_fails h t (stop.Bad k rest) b c w = rw (b, c, w) refl
  group_fails h t (stop.Over x rest) b c w = rw (b, c, w) refl

  group_reads : (h : Named) (t : List Lexeme) (xs : List Shape) (u : List Lexeme) →
      begins (of is_constructor) ls ≡ true → head_read ls ≡ got h t → inside patterns_at pass n 0 t ≡ got xs u →
      inside inside_at pass n ls ≡ got (group_of (h, xs)) u
  unfolding inside_at
  group_reads h t xs u b c w = rw (b, c, w) refl

  -- the patterns of the fields stop
  pub group_stops : (h : Named) (t : List Lexeme) (e : Stop) → 0 < n → begins (of is_constructor) ls ≡ true →
      head_read ls ≡ got h t → Fails e (fields_at pass (n - 1) t) → Fails e (inside inside_at pass n ls)
  group_stops h t e lt b c w = group_fails h t e b c (subst (λ (x : _). Fails e x) (fields_are lt t) w)

  pub group_got : (h : Named) (t : List Lexeme) (xs : List Shape) (u : List Lexeme) → 0 < n →
      begins (of is_constructor) ls ≡ true → head_read ls ≡ got h t → fields_at pass (n - 1) t ≡ got xs u →
      inside inside_at pass n ls ≡ got (group_of (h, xs)) u
  group_got h t xs u lt b c w = group_reads h t xs u b c (sym (fields_are lt t) ∙ w)
