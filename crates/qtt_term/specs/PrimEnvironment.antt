-- The environment of the module Prim: the families Unit, Bool, Line and Eq, and no definitions.
-- Numbers, texts, handles, IO, IO1, the primitives and the actions are forms of terms, with signatures of their
-- own.
use Rattle.std.specs.Prelude.{Option, Some, None, cond}
use Rattle.qtt_base.specs.declared.place.GlobalId.{GlobalId}
use Rattle.qtt_term.specs.Term.{same_id}
use Rattle.qtt_term.specs.Signature.{Family, Env, unit_id, bool_id, line_id, eq_id, unit_family, bool_family, line_family, eq_family}

abbrev pub prim_family : GlobalId → Option Family
prim_family f =
    cond (same_id f unit_id) (Some unit_family)
    (cond (same_id f bool_id) (Some bool_family)
    (cond (same_id f line_id) (Some line_family)
    (cond (same_id f eq_id) (Some eq_family) None)))

abbrev pub prim_env : Env
prim_env = record { family = prim_family; definition = λ d. None }
