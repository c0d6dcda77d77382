-- Whole texts: their trees, the limits that they pass, and their first bad token.
use Rattle.std.proofs.Common.{◌≡◌, ◌+◌, List, [], ◌∷◌, ◌++◌, Option, Some, None, refl, sym, ap, subst, ◌∙◌, append_assoc, arith}
use Rattle.qtt_base.specs.declared.place.Span.{Span}
use Rattle.qtt_phrase.specs.Phrase.{BeginsSome, FirstBad, Settles}
use Rattle.qtt_phrase.specs.Reading.{Kind, Read}
use Rattle.qtt_phrase.specs.Reading.Read.{got, bad, over}
use Rattle.qtt_phrase.proofs.Chained.{Judged, nothing}
use Rattle.std.proofs.lemmas.List.{append-nil}
use Rattle.qtt_phrase.proofs.Whole.Fronts.{shorter, longer}
use Rattle.qtt_phrase.proofs.Whole.{Fronts, fronts, whole, found, bad_first, got_first, over_settles, bad_settles_none, got_settles_none}
use Rattle.qtt_syntax.specs.Tree.{Module}
use Rattle.qtt_grammar.specs.declared.class.Pass.{Pass}
use Rattle.qtt_grammar.specs.declared.stop.Excess.{Excess}
use Rattle.qtt_grammar.specs.declared.lexeme.Lexeme.{Lexeme}
use Rattle.qtt_grammar.specs.Grammar.{Says, IsText}
use Rattle.qtt_grammar.specs.Readers.{text_at}
use Rattle.qtt_grammar.specs.Answer.{HasAnswer}
use Rattle.qtt_grammar.specs.Answer.HasAnswer.{is_text, is_excess, is_bad}
use Rattle.qtt_grammar.proofs.Items.{text_exact, text_some}

abbrev pub nowhere : Span
nowhere = record { line = 0; col = 0; len = 0 }

-- a place that is another one
abbrev pub elsewhere : Span → Span
elsewhere s = record { line = s.line + 1; col = s.col; len = s.len }

pub apart_from : (s : Span) → s ≡ elsewhere s → ⊥
apart_from s e = let h = ap (λ (t : Span). t.line) e in omega arith

abbrev TextRead : Type 0
TextRead = Read Lexeme Excess Module

text_whole : (pass : Pass) (ls : List Lexeme) (t : Module) (o : Option Excess) → IsText pass ls t o →
    Judged o t [] (text_at pass ls)
text_whole pass ls t o m =
    whole (IsText pass) nothing (text_at pass) (text_exact nowhere pass) (text_some nowhere pass) ls t o m

read_none : (r : TextRead) (t : Module) → r ≡ got t [] → (u : Module) (o : Option Excess) → Judged o u [] r →
    (u ≡ t) × (o ≡ None)
read_none r t e u None j = (let h = sym j ∙ e in cc, refl)
read_none r t e u (Some f) (w, j) = absurd (let h = sym e ∙ j in cc)

pub one_tree : (pass : Pass) (ls : List Lexeme) (t u : Module) → IsText pass ls t None → IsText pass ls u None → t ≡ u
one_tree pass ls t u m n = let x = text_whole pass ls t None m in let y = text_whole pass ls u None n in let h =
    sym x ∙ y in cc

-- ---- the three answers

pub no_text : (pass : Pass) (ls : List Lexeme) (r : TextRead) → text_at pass ls ≡ r →
    ((t : Module) (o : Option Excess) → Judged o t [] r → ⊥) →
    (t : Module) (o : Option Excess) → IsText pass ls t o → ⊥
no_text pass ls r e h t o m = h t o (subst (λ (q : TextRead). Judged o t [] q) e (text_whole pass ls t o m))

pub long_none : (a : Module) (x : Lexeme) (rest : List Lexeme) (t : Module) (o : Option Excess) →
    Judged o t [] (got a (x ∷ rest)) → ⊥
long_none a x rest t None j = cc
long_none a x rest t (Some f) (w, j) = cc

pub bad_none : (k : Kind) (rest : List Lexeme) (t : Module) (o : Option Excess) → Judged o t [] (bad k rest) → ⊥
bad_none k rest t None j = cc
bad_none k rest t (Some f) (w, j) = cc

over_none : (e : Excess) (rest : List Lexeme) (t : Module) → Judged None t [] (over e rest) → ⊥
over_none e rest t j = cc

-- ---- what reading settles

module _ (pass : Pass) (ls : List Lexeme) where
  pub text_found : (t : Module) → text_at pass ls ≡ got t [] → IsText pass ls t None
  text_found t e = found (IsText pass) nothing (text_at pass) (text_exact nowhere pass) (text_some nowhere pass) ls t e

  pub got_first_bad : (t : Module) (x : Lexeme) (rest : List Lexeme) → text_at pass ls ≡ got t (x ∷ rest) →
      FirstBad (IsText pass) ls (x ∷ rest)
  got_first_bad t x rest e =
      got_first (IsText pass) nothing (text_at pass) (text_exact nowhere pass)
      (text_some nowhere pass) ls t x rest e

  pub got_within : (t : Module) (rest : List Lexeme) → text_at pass ls ≡ got t rest →
      (f : Excess) → Settles (IsText pass) ls f → ⊥
  got_within t rest e f st =
      got_settles_none (IsText pass) nothing (text_at pass) (text_exact nowhere pass)
      (text_some nowhere pass) ls t rest f e st

  pub bad_first_bad : (k : Kind) (rest : List Lexeme) → text_at pass ls ≡ bad k rest → FirstBad (IsText pass) ls rest
  bad_first_bad k rest e = bad_first (IsText pass) nothing (text_at pass) (text_exact nowhere pass)
      (text_some nowhere pass) ls k rest e

  pub bad_within : (k : Kind) (rest : List Lexeme) → text_at pass ls ≡ bad k rest →
      (f : Excess) → Settles (IsText pass) ls f → ⊥
  bad_within k rest e f st =
      bad_settles_none (IsText pass) nothing (text_at pass) (text_exact (elsewhere f.place) pass)
      (text_some (elsewhere f.place) pass) ls k rest f e (apart_from f.place) st

  pub over_passes : (f : Excess) (rest : List Lexeme) → text_at pass ls ≡ over f rest → Settles (IsText pass) ls f
  over_passes f rest e = over_settles (IsText pass) nothing (text_at pass) (text_exact nowhere pass)
      (text_some nowhere pass) ls f rest e

  pub text_read : (t : Module) → IsText pass ls t None → text_at pass ls ≡ got t []
  text_read t m = text_whole pass ls t None m

  answer_by : (r : TextRead) → text_at pass ls ≡ r → HasAnswer pass ls
  answer_by (got t []) e = is_text t (text_found t e) (got_within t [] e)
  answer_by (got t (x ∷ rest)) e =
      is_bad (x ∷ rest) (got_first_bad t x rest e) (got_within t (x ∷ rest) e)
      (no_text pass ls (got t (x ∷ rest)) e (long_none t x rest))
  answer_by (bad k rest) e =
      is_bad rest (bad_first_bad k rest e) (bad_within k rest e)
      (no_text pass ls (bad k rest) e (bad_none k rest))
  answer_by (over f rest) e =
      is_excess f (over_passes f rest e)
      (λ t m. over_none f rest t (subst (λ (q : TextRead). Judged None t [] q) e (text_read t m)))

pub has_answer : (pass : Pass) (ls : List Lexeme) → HasAnswer pass ls
has_answer pass ls = answer_by pass ls (text_at pass ls) refl

-- ---- each is unique

settled_by : {A : Type 0} (P : Says A) (us vs rest more : List Lexeme) (e f : Excess) → BeginsSome P us →
    BeginsSome P vs → ((w : List Lexeme) (a : A) (o : Option Excess) → P (us ++ w) a o → o ≡ Some e) →
    ((w : List Lexeme) (a : A) (o : Option Excess) → P (vs ++ w) a o → o ≡ Some f) → Fronts us vs rest → e ≡ f
settled_by P us vs rest more e f (w, a, o, m) begun each later (shorter n same) =
    let one = each w a o m in
    let two = later (n ++ w) a o
    (subst (λ (z : List Lexeme). P z a o) (ap (λ (z : List Lexeme). z ++ w) same ∙ append_assoc vs n w) m) in
    let h = sym one ∙ two in
    cc
settled_by P us vs rest more e f begun (w, a, o, m) each later (longer x n r same parts) =
    let two = later w a o m in
    let one = each (x ∷ n ++ w) a o
    (subst (λ (z : List Lexeme). P z a o) (ap (λ (z : List Lexeme). z ++ w) same ∙ append_assoc us (x ∷ n) w)
    m) in
    let h = sym one ∙ two in
    cc

pub settled_alike : {A : Type 0} (P : Says A) (ls : List Lexeme) (e f : Excess) → Settles P ls e →
    Settles P ls f → e ≡ f
settled_alike P ls e f s t =
    settled_by P s.front t.front s.rest t.rest e f s.begun t.begun s.each t.each
    (fronts s.front t.front s.rest t.rest (sym s.parts ∙ t.parts))

pub settled_once : (pass : Pass) (ls : List Lexeme) (e f : Excess) → Settles (IsText pass) ls e →
    Settles (IsText pass) ls f → e ≡ f
settled_once pass = settled_alike (IsText pass)

same_rest : (us rest more : List Lexeme) → us ++ rest ≡ us ++ more → rest ≡ more
same_rest [] rest more e = e
same_rest (u ∷ us) rest more e = same_rest us rest more (let h = e in cc)

not_longer : (pass : Pass) (us vs rest : List Lexeme) (x : Lexeme) (m r : List Lexeme) →
    ((y : Lexeme) (q : List Lexeme) → rest ≡ y ∷ q → BeginsSome (IsText pass) (us ++ y ∷ []) → ⊥) → rest ≡ x ∷ r →
    vs ≡ us ++ x ∷ m → BeginsSome (IsText pass) vs → ⊥
not_longer pass us vs rest x m r stops parts same (w, a, o, n) =
    stops x r parts (
      m ++ w,
      a,
      o,
      subst (λ (z : List Lexeme). IsText pass z a o)
          (ap (λ (z : List Lexeme). z ++ w) same ∙ append_assoc us (x ∷ m) w ∙
          sym (append_assoc us (x ∷ []) (m ++ w))) n,
    )

rest_by : (pass : Pass) (us vs rest more : List Lexeme) → us ++ rest ≡ vs ++ more → BeginsSome (IsText pass) us →
    BeginsSome (IsText pass) vs →
    ((y : Lexeme) (q : List Lexeme) → rest ≡ y ∷ q → BeginsSome (IsText pass) (us ++ y ∷ []) → ⊥) →
    ((y : Lexeme) (q : List Lexeme) → more ≡ y ∷ q → BeginsSome (IsText pass) (vs ++ y ∷ []) → ⊥) →
    Fronts us vs rest → rest ≡ more
rest_by pass us vs rest more e bu bv su sv (shorter [] same) =
    same_rest vs rest more (sym (ap (λ (z : List Lexeme). z ++ rest) (same ∙ append-nil vs)) ∙ e)
rest_by pass us vs rest more e bu bv su sv (shorter (x ∷ m) same) =
    let parts : x ∷ (m ++ rest) ≡ more =
    same_rest vs (x ∷ (m ++ rest)) more
    (sym (append_assoc vs (x ∷ m) rest) ∙ sym (ap (λ (z : List Lexeme). z ++ rest) same) ∙ e) in
    absurd (not_longer pass vs us more x m (m ++ rest) sv (sym parts) same bu)
rest_by pass us vs rest more e bu bv su sv (longer x m r same parts) =
    absurd (not_longer pass us vs rest x m r su parts same bv)

pub first_bad_once : (pass : Pass) (ls rest more : List Lexeme) → FirstBad (IsText pass) ls rest →
    FirstBad (IsText pass) ls more → rest ≡ more
first_bad_once pass ls rest more s t =
    rest_by pass s.front t.front rest more (sym s.parts ∙ t.parts) s.goes t.goes s.stops t.stops
    (fronts s.front t.front rest more (sym s.parts ∙ t.parts))
