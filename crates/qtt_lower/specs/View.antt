-- What the code's positions and bases stand for.
use Rattle.std.specs.Prelude.{ℕ, List, map}
use Rattle.qtt_base.specs.declared.place.GlobalId.{GlobalId}
use Rattle.std.specs.declared.vec.Vec.{Vec}
use Rattle.std.specs.declared.alloc.Global.{Global}
use Rattle.qtt_code.specs.declared.block.Block as code_block
use Rattle.qtt_code.specs.Instruction.{Position, Block}
use Rattle.qtt_code.specs.View.{blocks}
use Rattle.qtt_lower.specs.declared.position.Position as code_position
use Rattle.qtt_lower.specs.declared.position.Position.TheVariants.{Inner, Tail}
use Rattle.qtt_lower.specs.declared.bases.Bases as code_bases
use Rattle.qtt_lower.specs.Programs.{Base}

abbrev pub position : code_position.Position → Position
position Inner = Position.inner
position Tail = Position.tail

abbrev pub base : GlobalId × ℕ → Base
base b = record { id = b.0; block = b.1 }

abbrev pub base_list : List (GlobalId × ℕ) → List Base
base_list = map base

abbrev pub bases : code_bases.Bases → List Base
bases b = base_list b.firsts.items

abbrev pub part_list : List (Vec code_block.Block Global) → List (List Block)
part_list = map (λ v. blocks v.items)
