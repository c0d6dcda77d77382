-- What is elaborated has no hole in tail position, and what is walked has one.
use Rattle.std.proofs.Common.{◌≡◌, ℕ, true, false, List, refl}
use Rattle.qtt_syntax.specs.Tree.{Tree, Arguments, Binders, Statements}
use Rattle.qtt_term.specs.Term.{Term}
use Rattle.qtt_term.specs.Judgement.{Part}
use Rattle.qtt_term.specs.Entries.{Entries}
use Rattle.qtt_term.specs.Scope.{Scope}
use Rattle.qtt_rules.specs.Judged.{Judged, Mode}
use Rattle.qtt_bidi.specs.Meaning.{Meaning}
use Rattle.qtt_bidi.specs.Rules.{Calls, Acts, Found, Elaborates, FoundLambda, CheckedLambda, Runs}
use Rattle.qtt_holes.specs.Walk.{Walked, has_hole, ends_in_hole}
use Rattle.qtt_holes.specs.Rules.{Walks, WalksLambda, WalksStatements}

called : {G : Entries} {e : Tree} {m : Meaning} {es : Arguments} → Calls G e m es → has_hole e ≡ false
called (Calls.alone t e) = refl
called (Calls.to_arguments e) = refl

found : {G : Entries} {p : Part} {S : Scope} {e : Tree} {j : Judged} → Found G p S e j → has_hole e ≡ false
found (Found.variable t e u) = refl
found (Found.stands t e a) = refl
found (Found.global t e u) = refl
found Found.sort = refl
found (Found.function_type d c) = refl
found (Found.application e d a) = refl
found (Found.family c a) = called c
found (Found.listed c a) = called c
found (Found.ascribed d e) = refl
found Found.integer = refl
found Found.string = refl

mutual
  pub elaborated : {G : Entries} {p : Part} {S : Scope} {m : Mode} {e : Tree} {j : Judged} → Elaborates G p S m e j →
      has_hole e ≡ false
  elaborated (Elaborates.found d) = found d
  elaborated (Elaborates.switch d c) = found d
  elaborated (Elaborates.lam_synth d) = found_lambda d
  elaborated (Elaborates.lam_check d) = checked_lambda d
  elaborated (Elaborates.con_synth c h k a) = called c
  elaborated (Elaborates.con_check c h y a v) = called c
  elaborated (Elaborates.pure c h a) = called c
  elaborated (Elaborates.let_in v b f) = elaborated b
  elaborated (Elaborates.block d) = runs d

  found_lambda : {G : Entries} {p : Part} {S : Scope} {bs : Binders} {e : Tree} {j : Judged} →
      FoundLambda G p S bs e j → has_hole e ≡ false
  found_lambda (FoundLambda.found_body d) = elaborated d
  found_lambda (FoundLambda.found_binder t d f) = found_lambda d

  checked_lambda : {G : Entries} {p : Part} {S : Scope} {A : Term} {bs : Binders} {e : Tree} {j : Judged} →
      CheckedLambda G p S A bs e j → has_hole e ≡ false
  checked_lambda (CheckedLambda.checked_body d) = elaborated d
  checked_lambda (CheckedLambda.checked_binder h a d f) = checked_lambda d

  runs : {G : Entries} {p : Part} {S : Scope} {m : Mode} {ss : Statements} {j : Judged} → Runs G p S m ss j →
      ends_in_hole ss ≡ false
  runs (Runs.last d) = elaborated d
  runs (Runs.act Acts.binds h d k r f) = runs r
  runs (Runs.act Acts.runs h d k r f) = runs r
  runs (Runs.let_then v b f) = runs b

mutual
  pub walked : {G : Entries} {p : Part} {S : Scope} {ns : List (List ℕ)} {A : Term} {e : Tree} {w : Walked} →
      Walks G p S ns A e w → has_hole e ≡ true
  walked Walks.at_hole = refl
  walked (Walks.in_lambda d) = walked_lambda d
  walked (Walks.in_let v b f) = walked b
  walked (Walks.in_block d) = walked_statements d

  walked_lambda : {G : Entries} {p : Part} {S : Scope} {ns : List (List ℕ)} {A : Term} {bs : Binders} {e : Tree}
      {w : Walked} → WalksLambda G p S ns A bs e w → has_hole e ≡ true
  walked_lambda (WalksLambda.body d) = walked d
  walked_lambda (WalksLambda.binder h a d f) = walked_lambda d

  walked_statements : {G : Entries} {p : Part} {S : Scope} {ns : List (List ℕ)} {A : Term} {ss : Statements}
      {w : Walked} → WalksStatements G p S ns A ss w → ends_in_hole ss ≡ true
  walked_statements (WalksStatements.last d) = walked d
  walked_statements (WalksStatements.act Acts.binds h d k r f) = walked_statements r
  walked_statements (WalksStatements.act Acts.runs h d k r f) = walked_statements r
  walked_statements (WalksStatements.let_then v b f) = walked_statements b
