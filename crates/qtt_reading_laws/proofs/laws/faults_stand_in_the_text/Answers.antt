use Rattle.qtt_reading_laws.specs.Places.{IsPlaceOf}
use Rattle.qtt_reading_laws.proofs.Tokens.{start_stands, tokens_stand, lexing_stands, marks_stand, layout_stands}
use Rattle.qtt_reading_laws.proofs.Parsing.{tree_stands, grammar_stands}
use Rattle.qtt_reading_laws.proofs.Resolving.{names_stand, resolved_stands}
use Rattle.qtt_reading_laws.proofs.laws.faults_stand_in_the_text.Goals as goal

pub returns : goal.returns
returns c = record {
  of_lexing = lexing_stands;
  of_layout = λ text ts m l e. layout_stands (IsPlaceOf text) ts m (tokens_stand text ts l) e;
  of_grammar = λ text ts ms m l e f.
      grammar_stands (IsPlaceOf text) (start_stands text) ms m
      (marks_stand (IsPlaceOf text) ts ms (tokens_stand text ts l) e) f;
  of_names = λ text ts ms t s m l e f r.
      names_stand (IsPlaceOf text) s t m
      (tree_stands (IsPlaceOf text) (start_stands text) ms t
      (marks_stand (IsPlaceOf text) ts ms (tokens_stand text ts l) e) f) r;
  of_trees = λ text ts ms t l e f.
      tree_stands (IsPlaceOf text) (start_stands text) ms t
      (marks_stand (IsPlaceOf text) ts ms (tokens_stand text ts l) e) f;
  of_resolved = λ text ts ms t u s l e f r.
      resolved_stands (IsPlaceOf text) s t u
      (tree_stands (IsPlaceOf text) (start_stands text) ms t
      (marks_stand (IsPlaceOf text) ts ms (tokens_stand text ts l) e) f) r;
}
