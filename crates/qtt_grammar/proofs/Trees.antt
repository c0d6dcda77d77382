-- Trees that readers make.
use Rattle.std.proofs.Common.{◌≡◌, List, [], ◌∷◌, map, length, refl}
use Rattle.qtt_base.specs.declared.place.Span.{Span}
use Rattle.qtt_syntax.specs.Tree.{Tree, Argument, arguments}
use Rattle.qtt_syntax.specs.Tree.Tree.{apply}
use Rattle.qtt_grammar.specs.Grammar.{app_of}

pub app_some : (s : Span) (f : Tree) (xs : List Argument) → (xs ≡ [] → ⊥) → app_of s f xs ≡ apply f (arguments xs) s
app_some s f [] h = absurd (h refl)
app_some s f (a ∷ more) h = refl

pub map_some : {A B : Type 0} (f : A → B) (xs : List A) → (length xs ≡ 0 → ⊥) → map f xs ≡ [] → ⊥
map_some f [] h e = h refl
map_some f (x ∷ xs) h e = cc
