-- Worked examples of what a module gives to those that import it: the module Data.T, as module 1.
use Rattle.std.specs.Prelude.{◌≡◌, ℕ, false, List, [], ◌∷◌, codes}
use Rattle.qtt_base.specs.declared.place.GlobalId.{GlobalId}
use Rattle.qtt_base.specs.declared.place.ModuleId.{ModuleId}
use Rattle.qtt_base.specs.declared.place.Span.{Span}
use Rattle.qtt_usage.specs.Mult.{ω}
use Rattle.qtt_syntax.specs.Tree.{Tree, Item}
use Rattle.qtt_syntax.specs.Tree.Con.{con}
use Rattle.qtt_syntax.specs.Tree.Item.{family, signature, clause}
use Rattle.qtt_syntax.specs.Tree.Module.{module_text}
use Rattle.qtt_syntax.specs.Tree.Tree.{universe}
use Rattle.qtt_names.specs.Exports.{Exports, Sig}
use Rattle.qtt_module.specs.Exported.{exports}

abbrev pub data_t : ModuleId
data_t = record { 0 = 1 }

-- line l
abbrev pub at : ℕ → Span
at l = record { line = l; col = 1; len = 1 }

-- `Type` in line l
abbrev pub types : ℕ → Tree
types l = universe 0 (at l) (at l)

-- what a module of these items gives
abbrev pub given : List Item → List Sig → Exports
given items = exports data_t (module_text (at 1) (codes "Data.T") (at 1) [] items)

-- these ids, with these signatures
abbrev pub gives : List (List ℕ × GlobalId) → List Sig → Exports
gives ids sigs = record { home = data_t; name = codes "Data.T"; items = ids; sigs = sigs }

abbrev pub numbered : ℕ → GlobalId
numbered k = record { «module» = data_t; item = k }

-- data T : Type where, with the constructors A and B
abbrev pub family_t : Item
family_t =
    family (codes "T") (at 2) [] (types 2)
    (con (codes "A") (types 3) (at 3) ∷ con (codes "B") (types 4) (at 4) ∷ []) (at 2)

abbrev pub ids_of_t : List (List ℕ × GlobalId) → List (List ℕ × GlobalId)
ids_of_t more = (codes "T", numbered 0) ∷ (codes "A", numbered 1) ∷ (codes "B", numbered 2) ∷ more

-- n : Type, and n = Type
abbrev pub signed : ℕ → List ℕ → Item
signed l n = signature false ω n (at l) (types l) (at l)

abbrev pub defined : ℕ → List ℕ → Item
defined l n = clause n [] (types l) (at l)

abbrev pub sig_of_f : Sig
sig_of_f = record { braces = 0; params = 0; type = types 5 }

pub record ExportRows : Type 0 where
  pub nothing : given [] [] ≡ gives [] []
  -- a family, its constructors and a definition have numbers; a clause has none
  pub in_text_order : given (family_t ∷ signed 5 (codes "f") ∷ defined 6 (codes "f") ∷ signed 7 (codes "g") ∷ []) [] ≡
      gives (ids_of_t ((codes "f", numbered 3) ∷ (codes "g", numbered 4) ∷ [])) []
  -- of two items of one name the first is given, and what follows the second is numbered behind it
  pub first_of_two : given (family_t ∷ signed 5 (codes "A") ∷ signed 6 (codes "g") ∷ []) [] ≡
      gives (ids_of_t ((codes "g", numbered 4) ∷ [])) []
  -- the signatures as they are
  pub with_signatures : given (signed 5 (codes "f") ∷ []) (sig_of_f ∷ []) ≡ gives ((codes "f", numbered 0) ∷ [])
      (sig_of_f ∷ [])
