-- What the code's declarations stand for, and a clause behind others.
use Rattle.std.specs.Prelude.{ℕ, Bool, false, cond, List, [], ◌∷◌, ◌++◌, map, bytes_eq}
use Rattle.qtt_syntax.specs.declared.module.Clause as code_clause
use Rattle.qtt_syntax.specs.declared.module.FamilyDecl.{FamilyDecl}
use Rattle.qtt_syntax.specs.declared.module.SignatureDecl.{SignatureDecl}
use Rattle.qtt_syntax.specs.View.{tree_of, param_of, con_of}
use Rattle.qtt_split.specs.Calls.{clause_of}
use Rattle.qtt_split.specs.Node.{Clause}
use Rattle.qtt_module.specs.declared.declaration.Declaration as code
use Rattle.qtt_module.specs.declared.declaration.Declaration.TheVariants as variant
use Rattle.qtt_module.specs.Declarations.{Declaration}

-- the group of these clauses, where there is one
abbrev pub grouped : List code_clause.Clause → List Declaration
grouped [] = []
grouped (c ∷ cs) = Declaration.group c.name (clause_of c) (map clause_of cs) ∷ []

abbrev pub family_declared : FamilyDecl → Declaration
family_declared f =
    Declaration.family f.name (map param_of f.params.items) (tree_of f.ty) (map con_of f.constructors.items)

abbrev pub signature_declared : SignatureDecl → Declaration
signature_declared d = Declaration.signature d.partial d.mult d.name d.name_span (tree_of d.ty)

abbrev pub declared : code.Declaration → List Declaration
declared (variant.Family f) = family_declared f ∷ []
declared (variant.Signature d) = signature_declared d ∷ []
declared (variant.Group g) = grouped g.clauses.items

abbrev pub all_declared : List code.Declaration → List Declaration
all_declared [] = []
all_declared (d ∷ ds) = declared d ++ all_declared ds

-- a clause is one more of these
abbrev pub is_of_group : List code_clause.Clause → code_clause.Clause → Bool
is_of_group [] c = false
is_of_group (d ∷ ds) c = bytes_eq d.name c.name

-- ---- a clause behind other declarations
abbrev pub behind_one : Declaration → List ℕ → Clause → List Declaration
behind_one (Declaration.group m d ds) n c =
    cond (bytes_eq m n) (Declaration.group m d (ds ++ c ∷ []) ∷ [])
    (Declaration.group m d ds ∷ Declaration.group n c [] ∷ [])
behind_one d n c = d ∷ Declaration.group n c [] ∷ []

abbrev pub after_clause : List Declaration → List ℕ → Clause → List Declaration
after_clause [] n c = Declaration.group n c [] ∷ []
after_clause (d ∷ []) n c = behind_one d n c
after_clause (d ∷ e ∷ ds) n c = d ∷ after_clause (e ∷ ds) n c
