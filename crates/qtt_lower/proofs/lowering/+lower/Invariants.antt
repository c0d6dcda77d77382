use Rattle.std.proofs.Common.{◌≡◌, ◌+◌, ◌++◌, drop, vec_len}
use Rattle.qtt_closure.specs.View.{flat_terms, flat_branches}
use Rattle.qtt_code.specs.View.{instrs}
use Rattle.qtt_lower.specs.Lowered.{all_code, all_width, branches_code, branches_width}
use Rattle.qtt_lower.specs.Programs.{entry}
use Rattle.qtt_lower.specs.View.{bases, position}
use Rattle.qtt_lower.proofs.lowering.+lower.Given as goal

abbrev pub invariant-lower_operands-loop-source : goal.invariant-lower_operands-loop-source
invariant-lower_operands-loop-source l = record {
  code : instrs l.code.items ++ all_code (entry (bases l.bases)) l.captured l.depth (vec_len l.code)
      (flat_terms (drop l.source-index l.sources))
      ≡ instrs l.initial.code.items ++ all_code (entry (bases l.bases)) l.captured l.depth
      (vec_len l.initial.code) (flat_terms l.sources);
  count : vec_len l.code + all_width (flat_terms (drop l.source-index l.sources)) ≡ vec_len l.initial.code +
      all_width (flat_terms l.sources);
}

abbrev pub invariant-lower_branches-loop-k : goal.invariant-lower_branches-loop-k
invariant-lower_branches-loop-k l = record {
  code : instrs l.code.items ++ branches_code (entry (bases l.bases)) l.captured (position l.position) l.depth
      (vec_len l.code) l.end (flat_branches (drop l.k l.branches))
      ≡ instrs l.initial.code.items ++ branches_code (entry (bases l.bases)) l.captured
      (position l.position) l.depth (vec_len l.initial.code) l.end (flat_branches l.branches);
  count : vec_len l.code + branches_width (position l.position) (flat_branches (drop l.k l.branches)) ≡ vec_len
      l.initial.code + branches_width (position l.position) (flat_branches l.branches);
}
