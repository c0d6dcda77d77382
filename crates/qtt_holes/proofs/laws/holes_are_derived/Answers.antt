use Rattle.qtt_holes.proofs.Walked.{way_so, walk_so}
use Rattle.qtt_holes.proofs.Walking.{so_way, so_walk}
use Rattle.qtt_holes.proofs.laws.holes_are_derived.Goals as goal

pub returns : goal.returns
returns c = record {
  way = λ G p S ns e A w. (way_so e G p S ns A w, λ d. so_way d);
  hole = λ G p S ns rs e A h. (walk_so G p S ns rs e A h, so_walk G p S ns rs e A h);
}
