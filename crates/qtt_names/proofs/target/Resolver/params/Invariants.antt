-- What has been passed is looked up, and the locals are those behind it.
use Rattle.std.proofs.Common.{◌≡◌, Ok, map, take, fold}
use Rattle.qtt_syntax.specs.View.{param_of}
use Rattle.qtt_names.specs.Resolved.{behind_param, filled_params}
use Rattle.qtt_names.specs.View.{names_of}
use Rattle.qtt_names.proofs.target.Resolver.params.Given as goal

abbrev pub invariant-loop-param : goal.invariant-loop-param
invariant-loop-param l = record {
  so_far : filled_params (names_of l.self) l.initial.locals.items (map param_of (take l.param-index l.source)) ≡
      Ok (map param_of l.done.items);
  behind : l.locals.items ≡ fold behind_param l.initial.locals.items (map param_of (take l.param-index l.source));
}
