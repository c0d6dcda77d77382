use Rattle.qtt_module.proofs.Turned.{declare_so, so_declare, turn_so, so_turn, module_so, so_module}
use Rattle.qtt_module.proofs.laws.modules_are_derived.Goals as goal

pub returns : goal.returns
returns c = record {
  item = λ M S d T. (declare_so M S d T, so_declare M S d T);
  items = λ M S ds T. (turn_so M S ds T, so_turn M S ds T);
  whole = λ M G is C. (module_so M G is C, so_module M G is C);
}
