-- What a global name stands for.
use Rattle.std.specs.Prelude.{ℕ, List, [], ◌∷◌, Option, Some, None, cond, eqb, is_some}
use Rattle.std.specs.Map.{lookup}
use Rattle.qtt_base.specs.declared.place.GlobalId.{GlobalId}
use Rattle.qtt_prims.specs.declared.prim.Primitive.{Primitive}
use Rattle.qtt_prims.specs.declared.prim.Primitive.TheVariants as prim
use Rattle.qtt_syntax.specs.Tree.{Tree}
use Rattle.qtt_syntax.specs.Tree.Tree.{name}
use Rattle.qtt_syntax.specs.declared.expr.Target.{Target}
use Rattle.qtt_syntax.specs.declared.expr.Target.TheVariants as target
use Rattle.qtt_term.specs.declared.term.ConId.{ConId}
use Rattle.qtt_term.specs.declared.rule.Rule.{Rule}
use Rattle.qtt_term.specs.declared.rule.Rule.TheVariants as rule
use Rattle.qtt_term.specs.Term.{Io, PrimTy, Action, Named}
use Rattle.qtt_term.specs.Signature.{type_arguments}
use Rattle.qtt_term.specs.Keyed.{with_id}
use Rattle.qtt_term.specs.Items.{family_id, constructor_of}
use Rattle.qtt_term.specs.Entries.{Entries}

pub data Meaning : Type 0 where
  definition : GlobalId → Meaning
  -- these take exactly their arguments
  family : GlobalId → Meaning
  constructor : ConId → Meaning
  -- with the rule that judges it
  listed : Rule → Named → Meaning
  pure : Io → Meaning

abbrev pub type_name : PrimTy → Meaning
type_name t = Meaning.listed rule.Family (Named.prim_ty t)

abbrev pub primitive : Primitive → Meaning
primitive p = Meaning.listed rule.Prim (Named.prim p)

abbrev pub action : Action → Meaning
action a = Meaning.listed rule.Act (Named.act a (type_arguments a))

-- the items of the module Prim that are neither families nor constructors, by their numbers in its table of names
abbrev pub prim_meanings : List (ℕ × Meaning)
prim_meanings =
    (0, type_name PrimTy.int) ∷ (1, type_name PrimTy.string) ∷ (2, type_name PrimTy.handle)
    ∷ (6, type_name (PrimTy.io_of Io.io)) ∷ (7, type_name (PrimTy.io_of Io.io1))
    ∷ (15, primitive prim.AddInt) ∷ (16, primitive prim.SubInt) ∷ (17, primitive prim.MulInt)
    ∷ (18, primitive prim.DivInt) ∷ (19, primitive prim.ModInt)
    ∷ (20, primitive prim.EqInt) ∷ (21, primitive prim.LtInt)
    ∷ (22, primitive prim.AppendString) ∷ (23, primitive prim.EqString) ∷ (24, primitive prim.ShowInt)
    ∷ (25, Meaning.pure Io.io) ∷ (26, Meaning.pure Io.io1) ∷ (27, action Action.put_line) ∷ (28, action Action.get_line)
    ∷ (29, action Action.opens) ∷ (30, action Action.writes) ∷ (31, action Action.closes) ∷ []

abbrev pub in_prim : GlobalId → Option Meaning
in_prim id = cond (eqb id.module.0 0) (lookup (eqb id.item) prim_meanings) None

abbrev pub of_constructor : Option ConId → GlobalId → Meaning
of_constructor None id = Meaning.definition id
of_constructor (Some c) id = Meaning.constructor c

abbrev pub of_item : Entries → GlobalId → Meaning
of_item G id = cond (is_some (with_id family_id id G.families)) (Meaning.family id)
    (of_constructor (constructor_of G.families id) id)

abbrev pub or_item : Entries → GlobalId → Option Meaning → Meaning
or_item G id None = of_item G id
or_item G id (Some m) = m

abbrev pub meaning : Entries → GlobalId → Meaning
meaning G id = or_item G id (in_prim id)

-- what takes exactly its arguments, where a name stands for it
abbrev pub if_exact : Meaning → Option Meaning
if_exact (Meaning.definition d) = None
if_exact (Meaning.family f) = Some (Meaning.family f)
if_exact (Meaning.constructor c) = Some (Meaning.constructor c)
if_exact (Meaning.listed r n) = Some (Meaning.listed r n)
if_exact (Meaning.pure m) = Some (Meaning.pure m)

abbrev pub of_target : Entries → Target → Option Meaning
of_target G target.Unknown = None
of_target G (target.Local i) = None
of_target G (target.Global id) = if_exact (meaning G id)

-- what the function of an application is, where it takes exactly its arguments
abbrev pub exact : Entries → Tree → Option Meaning
exact G (name n) = of_target G n.target
exact G _ = None
