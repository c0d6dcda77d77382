-- Lexemes whose names have the forms of their spellings, as those of each text do.
use Rattle.std.specs.Prelude.{◌≡◌, true, List, [], ◌∷◌}
use Rattle.qtt_grammar.specs.Classes.{is_bound_or_name}
use Rattle.qtt_grammar.specs.declared.lexeme.Lexeme.{Lexeme}
use Rattle.qtt_reprint.specs.Sketch.{named_class}

-- a name, or `_`, has the form of its spelling
abbrev pub HasForm : Lexeme → Type 0
HasForm x = is_bound_or_name x.class ≡ true → named_class x.name ≡ x.class

abbrev pub HaveForms : List Lexeme → Type 0
HaveForms [] = Unit {0}
HaveForms (x ∷ ls) = HasForm x × HaveForms ls
