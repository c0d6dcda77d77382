-- What the code's meanings of names stand for, and the signatures of what takes exactly its arguments.
use Rattle.qtt_term.specs.declared.rule.Rule.{Rule}
use Rattle.qtt_term.specs.declared.rule.Rule.TheVariants as rule
use Rattle.qtt_term.specs.Term.{PrimTy, Named, Form, Term, Sort}
use Rattle.qtt_term.specs.Signature.{Tele, fam_at, signature, type_arguments}
use Rattle.qtt_term.specs.View.{io, action as action_of}
use Rattle.qtt_term.specs.Entries.{Entries, env}
use Rattle.qtt_bidi.specs.declared.meaning.TypeName.{TypeName}
use Rattle.qtt_bidi.specs.declared.meaning.TypeName.TheVariants as type_variant
use Rattle.qtt_bidi.specs.declared.meaning.Listed.{Listed}
use Rattle.qtt_bidi.specs.declared.meaning.Listed.TheVariants as listed
use Rattle.qtt_bidi.specs.declared.meaning.Meaning as code
use Rattle.qtt_bidi.specs.declared.meaning.Meaning.TheVariants as variant
use Rattle.qtt_bidi.specs.Meaning.{Meaning, type_name, primitive, action}
use Rattle.qtt_bidi.specs.Elaboration.{family_telescope}

abbrev pub prim_type : TypeName → PrimTy
prim_type type_variant.Int = PrimTy.int
prim_type type_variant.Text = PrimTy.string
prim_type type_variant.Handle = PrimTy.handle
prim_type (type_variant.Io m) = PrimTy.io_of (io m)

abbrev pub listed_as : Listed → Meaning
listed_as (listed.Family f) = Meaning.family f
listed_as (listed.Type t) = type_name (prim_type t)
listed_as (listed.Primitive p) = primitive p
listed_as (listed.Action a) = action (action_of a)

abbrev pub meaning_of : code.Meaning → Meaning
meaning_of (variant.Definition d) = Meaning.definition d
meaning_of (variant.Listed l) = listed_as l
meaning_of (variant.Constructor c) = Meaning.constructor c
meaning_of (variant.Pure m) = Meaning.pure (io m)

-- ---- signatures: the rule that judges it, the form that it makes, its arguments, and its type under these
abbrev pub rule_of : Listed → Rule
rule_of (listed.Family f) = rule.Family
rule_of (listed.Type t) = rule.Family
rule_of (listed.Primitive p) = rule.Prim
rule_of (listed.Action a) = rule.Act

abbrev pub form_of : Listed → Form
form_of (listed.Family f) = Form.fam f
form_of (listed.Type t) = Form.named (Named.prim_ty (prim_type t))
form_of (listed.Primitive p) = Form.named (Named.prim p)
form_of (listed.Action a) = Form.named (Named.act (action_of a) (type_arguments (action_of a)))

abbrev pub arguments_of : Entries → Listed → Tele
arguments_of G (listed.Family f) = family_telescope G f
arguments_of G (listed.Type t) = (signature (env G) (Named.prim_ty (prim_type t))).arguments
arguments_of G (listed.Primitive p) = (signature (env G) (Named.prim p)).arguments
arguments_of G (listed.Action a) =
    (signature (env G) (Named.act (action_of a) (type_arguments (action_of a)))).arguments

abbrev pub type_of : Entries → Listed → Term
type_of G (listed.Family f) = Sort (fam_at (env G) f).level
type_of G (listed.Type t) = (signature (env G) (Named.prim_ty (prim_type t))).type
type_of G (listed.Primitive p) = (signature (env G) (Named.prim p)).type
type_of G (listed.Action a) = (signature (env G) (Named.act (action_of a) (type_arguments (action_of a)))).type
