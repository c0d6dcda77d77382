use Rattle.qtt_build.proofs.laws.build_laws.Goals as goal

pub returns : goal.returns
returns c = record {
  judged = c.builds_are_judged.ensures;
  roots = c.roots_are_built.ensures;
  forms = c.builds_keep_form.ensures;
  once = c.builds_declare_once.ensures;
  clauses = c.builds_follow_clauses.ensures;
  refusals = c.build_refusals_are_so.ensures;
}
