-- What the code's scopes, and its answers, stand for.
use Rattle.std.specs.Prelude.{◌≡◌, ℕ, map, List, Option, Some, None, Result, Ok, Err, Box, Vec}
use Rattle.std.specs.Borrow.{Bor}
use Rattle.std.specs.Global.{Global}
use Rattle.qtt_base.specs.declared.errors.Fault.{Fault}
use Rattle.qtt_syntax.specs.declared.expr.Expr.{Expr}
use Rattle.qtt_syntax.specs.declared.expr.Argument as argument_code
use Rattle.qtt_syntax.specs.declared.expr.Binder as binder_code
use Rattle.qtt_syntax.specs.declared.expr.Statement as statement_code
use Rattle.qtt_base.specs.declared.place.Span.{Span}
use Rattle.qtt_syntax.specs.declared.expr.Local.{Local}
use Rattle.qtt_syntax.specs.declared.pattern.Pattern.{Pattern}
use Rattle.qtt_syntax.specs.declared.module.Param as param_code
use Rattle.qtt_syntax.specs.declared.module.ConDecl.{ConDecl}
use Rattle.qtt_syntax.specs.declared.module.FamilyDecl.{FamilyDecl}
use Rattle.qtt_syntax.specs.declared.module.SignatureDecl.{SignatureDecl}
use Rattle.qtt_syntax.specs.declared.module.Clause.{Clause}
use Rattle.qtt_syntax.specs.declared.module.Item as item_code
use Rattle.qtt_syntax.specs.declared.module.Item.TheVariants as item_variants
use Rattle.qtt_syntax.specs.Tree.{Tree, Argument, Binder, Statement, Shape, Param, Con, Item}
use Rattle.qtt_syntax.specs.View.{tree_of, argument_of, binder_of, statement_of, shape_of, param_of, con_of, item_of}
use Rattle.qtt_names.specs.declared.errors.NamesError.{NamesError}
use Rattle.qtt_names.specs.declared.errors.NamesError.TheVariants as errors
use Rattle.qtt_names.specs.declared.scope.Imported as imported_code
use Rattle.qtt_names.specs.declared.scope.Scope as scope_code
use Rattle.qtt_names.specs.declared.target.Resolver as resolver_code
use Rattle.qtt_names.specs.Answer.{Answer, Mistake}
use Rattle.qtt_names.specs.Scope.{Scope, Imported}
use Rattle.qtt_names.specs.Target.{look_up}
use Rattle.qtt_names.specs.Filled.{Names}

abbrev pub imported_of : imported_code.Imported → Imported
imported_of i = record { name = i.name; items = i.items.entries }

abbrev pub scope : scope_code.Scope → Scope
scope s = record { home = s.module; name = s.name; own = s.own.entries; imports = map imported_of s.imports.items }

abbrev pub names_of : resolver_code.Resolver → Names
names_of n = look_up (scope n.scope.now) n.items

-- a fault without where its word lies in memory
abbrev pub seen : Fault → Mistake
seen f = record { kind = f.kind; span = f.span; word = f.word.items; count = f.count }

-- the error is want of memory, or this fault
abbrev pub Says : NamesError → Mistake → Type 0
Says errors.Memory m = Unit {0}
Says (errors.Fault f) m = seen f ≡ m

-- The answer is exactly this value, seen by `view`, or this fault, unless memory ran out.
abbrev pub Gives : {A B : Type 0} → (A → B) → Result A NamesError → Answer B → Type 0
Gives view (Ok a) answer = answer ≡ Ok (view a)
Gives view (Err errors.Memory) answer = Unit {0}
Gives view (Err (errors.Fault f)) answer = answer ≡ Err (seen f)

abbrev pub unchanged : {A : Type 0} → A → A
unchanged a = a

abbrev pub boxed_tree : Box Expr Global → Tree
boxed_tree b = tree_of b.value

abbrev pub argument_list : Vec argument_code.Argument Global → List Argument
argument_list v = map argument_of v.items

abbrev pub binder_list : Vec binder_code.Binder Global → List Binder
binder_list v = map binder_of v.items

abbrev pub statement_list : Vec statement_code.Statement Global → List Statement
statement_list v = map statement_of v.items

abbrev pub shape_list : Vec Pattern Global → List Shape
shape_list v = map shape_of v.items

abbrev pub param_list : Vec param_code.Param Global → List Param
param_list v = map param_of v.items

abbrev pub con_list : Vec ConDecl Global → List Con
con_list v = map con_of v.items

abbrev pub item_list : Vec item_code.Item Global → List Item
item_list v = map item_of v.items

abbrev pub family_item : FamilyDecl → Item
family_item f = item_of (item_variants.Family f)

abbrev pub signature_item : SignatureDecl → Item
signature_item d = item_of (item_variants.Signature d)

abbrev pub clause_item : Clause → Item
clause_item c = item_of (item_variants.Clause c)

-- a hole, by its name and place
abbrev pub hole_of : Option (Bor (List ℕ) × Span) → Option Local
hole_of None = None
hole_of (Some h) = Some (record { name = h.0.now; span = h.1 })
