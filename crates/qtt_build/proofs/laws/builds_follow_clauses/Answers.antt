use Rattle.qtt_build.proofs.Clauses.{builds_follow_clauses_holds}
use Rattle.qtt_build.proofs.laws.builds_follow_clauses.Goals as goal

pub returns : goal.returns
returns c =
    builds_follow_clauses_holds (record {
      forms = c.texts_keep_form_beside.ensures;
      texts = c.texts_go_by_clauses.ensures;
      stay = c.by_clauses_stay.ensures;
      followed = c.clauses_are_followed.ensures;
      prim = c.prim_is_apart.ensures;
    })
