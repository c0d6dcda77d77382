-- The worked graphs, computed.
use Rattle.std.proofs.Common.{refl}
use Rattle.qtt_graph.specs.Rows.{GraphRows}

pub rows_hold : GraphRows
rows_hold = record {
  row_ring = refl;
  row_place = refl;
  row_ranks = refl;
  tree_ring = refl;
  tree_ranks = refl;
  least_ring = refl;
  least_place = refl;
  earlier_import = refl;
  of_itself = refl;
  of_itself_place = refl;
  not_on_it = refl;
  one_module = refl;
}
