-- Worked examples of the way to a hole, by the rules.
use Rattle.std.specs.Prelude.{[], ◌∷◌, codes}
use Rattle.qtt_usage.specs.Mult.{𝟘, 𝟙, ω}
use Rattle.qtt_term.specs.Term.{var, Pi}
use Rattle.qtt_term.specs.Signature.{IntTy}
use Rattle.qtt_term.specs.Judgement.{Part}
use Rattle.qtt_term.specs.Entries.{prim_entries}
use Rattle.qtt_term.specs.Scope.{no_scope}
use Rattle.qtt_bidi.specs.Programs.{at}
use Rattle.qtt_holes.specs.Rules.{HasHole}
use Rattle.qtt_holes.specs.Rows.{left, under_x}

pub record HoleRuleRows : Type 0 where
  -- \x => ?a against (1 x : Int) -> Int: in the run part x is left, in the erased part nothing is
  pub is_left : HasHole prim_entries Part.run no_scope [] [] under_x (Pi 𝟙 IntTy IntTy) (record {
    name = codes "a";
    span = at 3 12;
    goal = IntTy;
    depth = 1;
    seen = left 𝟙 (codes "x") (var 0) IntTy ∷ [];
  })
  pub nothing_left : HasHole prim_entries Part.erased no_scope [] [] under_x (Pi ω IntTy IntTy) (record {
    name = codes "a";
    span = at 3 12;
    goal = IntTy;
    depth = 1;
    seen = left 𝟘 (codes "x") (var 0) IntTy ∷ [];
  })
