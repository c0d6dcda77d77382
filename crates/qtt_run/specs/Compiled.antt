-- The code that lowering a whole environment gives.
use Rattle.std.specs.Prelude.{◌≡◌, ◌↔◌, Some, option_map}
use Rattle.qtt_base.specs.declared.place.GlobalId.{GlobalId}
use Rattle.qtt_term.specs.declared.globals.Globals.{Globals}
use Rattle.qtt_term.specs.Globals.{env}
use Rattle.qtt_term.specs.Judgement.{Part, Usable}
use Rattle.qtt_term.specs.Keyed.{with_id}
use Rattle.qtt_term.specs.Signature.{Definition, Env, There}
use Rattle.qtt_lower.specs.declared.program.Compiled.{Compiled}
use Rattle.qtt_lower.specs.Programs.{base_id, entry}
use Rattle.qtt_lower.specs.Compiled.{definition_ids}
use Rattle.qtt_lower.specs.Whole.{compiled_program, compiled_bases}
use Rattle.qtt_run.specs.Code.{Lists, code, first_block}

-- a definition that is there, is not 0, and has its body
pub record HasCode (E : Env) (d : GlobalId) : Type 0 where
  pub definition : Definition
  pub there : E.definition d ≡ Some definition
  pub used : Usable Part.run definition.mult
  pub body : There definition.body

-- all definitions are listed; the program is their code, and each begins at its first block
pub record IsCodeOf (g : Globals) (c : Compiled) : Type 0 where
  pub listed : Lists (env g) (definition_ids g)
  pub program : compiled_program c ≡ code (env g) (definition_ids g)
  pub begins : (d : GlobalId) → entry (compiled_bases c) d ≡ first_block (env g) (definition_ids g) d
  -- those that begin anywhere are those that have code: where each function has its body, all but those that are
  -- 0 and those that are not there
  pub entries : (d : GlobalId) →
      There (option_map (λ b. b.block) (with_id base_id d (compiled_bases c))) ↔ HasCode (env g) d
