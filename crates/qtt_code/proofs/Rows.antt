-- The worked examples, computed.
use Rattle.std.proofs.Common.{refl, arith}
use Rattle.std.specs.Fmt.{digits}
use Rattle.qtt_code.specs.Machine.{Reaches}
use Rattle.qtt_code.specs.Rows.{MachineRows}

pub machine_rows_hold : MachineRows
unfolding digits
machine_rows_hold = record {
  identity_ends = (
    _,
    Reaches.ticks refl (Reaches.ticks refl (Reaches.goes refl (Reaches.goes refl (Reaches.goes refl (Reaches.ticks refl
        (Reaches.goes refl (Reaches.goes refl (Reaches.ticks refl (Reaches.goes refl Reaches.here))))))))),
    refl,
  );
  identity_is_spent = record {
    made = 3;
    last = _;
    way = Reaches.ticks refl (Reaches.ticks refl
        (Reaches.goes refl (Reaches.goes refl
        (Reaches.goes refl (Reaches.ticks refl (Reaches.goes refl (Reaches.goes refl Reaches.here)))))));
    within = omega arith;
    stops = (refl, refl);
  };
  branch_ends = (
    _,
    Reaches.ticks refl (Reaches.goes refl
        (Reaches.goes refl (Reaches.goes refl (Reaches.ticks refl (Reaches.goes refl (Reaches.goes refl
        (Reaches.goes refl (Reaches.ticks refl Reaches.here)))))))),
    refl,
  );
  division_traps = (_, Reaches.ticks refl (Reaches.goes refl (Reaches.goes refl Reaches.here)), refl);
  call_ends = (_, Reaches.ticks refl (Reaches.goes refl (Reaches.goes refl (Reaches.ticks refl Reaches.here))), refl);
  force_traps = (_, Reaches.ticks refl (Reaches.goes refl (Reaches.ticks refl Reaches.here)), refl);
  loop_is_spent = record {
    made = 5;
    last = _;
    way = Reaches.ticks refl (Reaches.ticks refl
        (Reaches.ticks refl (Reaches.ticks refl (Reaches.ticks refl Reaches.here))));
    within = omega arith;
    stops = (refl, refl);
  };
}
