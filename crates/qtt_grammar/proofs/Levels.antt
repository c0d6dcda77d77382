-- Each production's reader is exact, where those of the level inside are.
use Rattle.std.proofs.Common.{◌≡◌, ℕ, suc, Bool, true, false, cond, ◌&&◌, List, [], ◌∷◌, ◌++◌, Option, Some, None, refl, ap, ◌∙◌, inl, codes}
use Rattle.qtt_base.specs.declared.place.Span.{Span}
use Rattle.qtt_base.specs.declared.limits.Quantity.{Quantity}
use Rattle.qtt_base.specs.declared.limits.Quantity.TheVariants as quantity
use Rattle.qtt_usage.specs.declared.mult.Mult.TheVariants as mult
use Rattle.qtt_syntax.specs.Tree.{Binder, Statement}
use Rattle.qtt_syntax.specs.Tree.Tree.{name, hole}
use Rattle.qtt_syntax.specs.Tree.Annotation.{untyped}
use Rattle.qtt_syntax.specs.Tree.Binder.{plain}
use Rattle.qtt_phrase.specs.Phrase.{Token, Chain, ◌then◌, Making, Above, opens, first}
use Rattle.qtt_phrase.specs.Reading.{Kind, Reader, begins, cap_at, then_at, making_at}
use Rattle.qtt_phrase.proofs.Exact.{Among, begins_wider, begins_apart, opens_both}
use Rattle.qtt_phrase.proofs.Chained.{Stops, Exact, Sample, Started, mild_first, nothing}
use Rattle.qtt_phrase.proofs.Runs.{run_exact}
use Rattle.qtt_phrase.proofs.Forms.{Reads, tok, weighed, opening, make, seq, seq_if, join, follow, bind, then_exact, alt, starting, place_of, maybe, many, capped, leads_begins, leads_nothing, leads_perhaps, leads_many, leads_run, nothing_among, among_self, among_either, stops_fewer, wider_goes, sample_then, sample_token, sample_none, sample_many}
use Rattle.qtt_grammar.specs.declared.class.Class.{Class}
use Rattle.qtt_grammar.specs.declared.class.Class.TheVariants as class
use Rattle.qtt_grammar.specs.declared.class.Pass.{Pass}
use Rattle.qtt_grammar.specs.Classes.{is_open, is_next, is_close, is_do, is_let, is_in, is_the, is_zero, is_hole, is_left_paren, is_right_paren, is_arrow, is_fat_arrow, is_colon, is_equals, is_backslash, is_left_brace, is_right_brace, is_name, is_bname, is_digit, is_word, starts_atom, starts_other_atom, starts_binder, starts_pattern}
use Rattle.qtt_grammar.specs.declared.lexeme.Lexeme.{Lexeme}
use Rattle.qtt_grammar.specs.Lexeme.{sign, word}
use Rattle.qtt_grammar.specs.declared.stop.Excess.{Excess}
use Rattle.qtt_grammar.specs.Limits.{is_full, one_above, excess_of}
use Rattle.qtt_grammar.specs.Grammar.{Says, of, place, Symbol, Opening, local_of, named_of, Locally, mult_of, IsMark, IsZero, word_of, Up_to, typed_of, lambda_of, annotation_of, let_parts, let_of, next_of, do_of, bracket_of, braced_of, written_of, the_of, named_app_of, other_app_of, behind_of, arrow_of, pi_of, standing_of, Line, may_end, may_go, next_line, Level, Typed, IsBinder, Lambda, IsAnnotation, LetHead, Letting, Lines, Doing, Bracket, OtherAtom, IsAtom, Atoms, Brace, The, NamedApp, OtherApp, IsApp, Arrow, Pi, Hole}
use Rattle.qtt_grammar.specs.declared.class.Standing.TheVariants.{Before, Within, Last}
use Rattle.qtt_grammar.specs.Readers.{symbol_at, opener_at, local_at, mark_at, zero_at, up_to_at, LevelReader, typed_at, binder_at, lambda_at, annotation_at, let_head_at, letting_at, line_at, lines_at, doing_at, bracket_at, other_atom_at, atom_at, atoms_at, brace_at, the_at, named_app_at, other_app_at, app_at, arrow_at, pi_at, hole_at}
use Rattle.qtt_grammar.proofs.Decide.{apart, among}
use Rattle.qtt_grammar.proofs.Sets.{goes, starts_arrow, starts_expr, starts_typing, starts_other_pattern, next_or_goes, goes_or_colon, goes_or_in, app_goes, At}

-- a phrase whose first token stands at the place of what is completed
pub record Headed (p : Span) {A : Type 0} (P : Says A) : Type 0 where
  pub sample : Sample (At p) P
  pub head : Lexeme
  pub rest : List Lexeme
  pub tokens : sample.tokens ≡ head ∷ rest
  pub place : head.place ≡ p

-- readers and phrases of a level that belong together; `p` is the place of what is completed
pub record Inner (p : Span) (L : Level) (R : LevelReader) : Type 1 where
  pub expr : (tail : Bool) → Reads (At p) (L.expr tail) (of starts_expr) (of goes) (R.expr tail)
  pub expr_some : (tail : Bool) → Sample (At p) (L.expr tail)
  pub statement : (tail : Bool) →
      Reads (At p) (L.statement tail) (R.starts_statement tail) (of goes_or_in) (R.statement tail)
  pub statement_some : (tail : Bool) → Headed p (L.statement tail)
  pub statement_ends : (tail : Bool) (n : ℕ) → may_end (n, standing_of (statement_some tail).sample.value) ≡ true
  pub statement_starts : (tail : Bool) (x : Lexeme) → R.starts_statement tail x ≡ true →
      Started (L.statement tail) (x ∷ [])
  pub typing : Reads (At p) L.typing (of starts_typing) (of goes) R.typing
  pub typing_some : Sample (At p) L.typing
  pub binder : Reads (At p) L.binder (of starts_binder) nothing R.binder
  pub binder_some : Sample (At p) L.binder
  pub pattern : Reads (At p) L.pattern R.starts_pattern nothing R.pattern
  pub pattern_starts : (x : Lexeme) → R.starts_pattern x ≡ true → Started L.pattern (x ∷ [])
  pub pattern_among : Among R.starts_pattern (of starts_pattern)
  pub other_pattern : Reads (At p) L.other_pattern (of starts_other_pattern) nothing R.other_pattern
  pub other_pattern_some : Sample (At p) L.other_pattern

-- ---- single tokens

module _ {p : Span} where
  pub symbol : (is : Class → Bool) → Reads (At p) (Symbol is) (of is) nothing (symbol_at is)
  symbol is = tok (of is) place

  pub symbol_some : (is : Class → Bool) (c : Class) → is c ≡ true → Sample (At p) (Symbol is)
  symbol_some is c e = sample_token (of is) place (sign c p) e

  pub opener : (may : Bool) (is : Class → Bool) → Reads (At p) (Opening may is) (of is) nothing (opener_at may is)
  opener may is = opening may (of is) place

  pub locally : (is : Class → Bool) → Reads (At p) (Locally is) (of is) nothing (local_at is)
  locally is = tok (of is) local_of

  pub locally_some : (is : Class → Bool) (c : Class) → is c ≡ true → Sample (At p) (Locally is)
  locally_some is c e = sample_token (of is) local_of (word c p (codes "a")) e

  pub mark_exact : Exact (At p) IsMark (of is_digit) mark_at
  unfolding mark_at
  mark_exact = maybe mult.Many (of is_digit) (tok (of is_digit) (λ x. mult_of x.class)) (among_self (of is_digit))
      (nothing_among (of is_digit))

  pub zero_exact : Exact (At p) IsZero (of is_zero) zero_at
  unfolding zero_at
  zero_exact = maybe mult.Many (of is_zero) (tok (of is_zero) (λ x. mult_of x.class)) (among_self (of is_zero))
      (nothing_among (of is_zero))

  pub mark_some : Sample (At p) IsMark
  mark_some = sample_none mult.Many (Token (of is_digit) (λ x. mult_of x.class))

  pub zero_some : Sample (At p) IsZero
  zero_some = sample_none mult.Many (Token (of is_zero) (λ x. mult_of x.class))

-- ---- counts

up_to_case : {A : Type 0} {p : Span} {P : Says A} {t : Lexeme → Bool} {g : Lexeme → Bool}
    {r : Reader Lexeme Excess A} (fault : Lexeme → Excess) (kind : Lexeme → Kind) (b : Bool) →
    Reads (At p) P t g r → ((x : Lexeme) → t x ≡ true → Started P (x ∷ [])) →
    Reads (At p) (cond b (Above fault P) P) t g (cond b (cap_at t kind fault) r)
up_to_case {t} {g} fault kind true r starts = capped fault t kind g r.begins starts
up_to_case fault kind false r starts = r

pub up_to : {A : Type 0} {p : Span} {P : Says A} {t : Lexeme → Bool} {g : Lexeme → Bool}
    {r : Reader Lexeme Excess A} (pass : Pass) (q : Quantity) (kind : Lexeme → Kind) (n : ℕ) →
    Reads (At p) P t g r → ((x : Lexeme) → t x ≡ true → Started P (x ∷ [])) →
    Reads (At p) (Up_to pass q n P) t g (up_to_at pass q t kind r n)
up_to pass q kind n r starts = up_to_case (λ x. one_above q x.place) kind (is_full pass q n) r starts

-- where one too many stands at the place of what is completed, a completion may have it
sample_case : {A : Type 0} {p : Span} {P : Says A} (q : Quantity) (b : Bool) (s : Sample (At p) P) (x : Lexeme)
    (r : List Lexeme) → s.tokens ≡ x ∷ r → x.place ≡ p →
    Sample (At p) (cond b (Above (λ x. one_above q x.place) P) P)
sample_case q true s x r e f =
    record {
      tokens = s.tokens;
      value = s.value;
      fault = Some (one_above q x.place);
      means = (x, r, s.fault, e, s.means, refl);
      mild = f;
    }
sample_case q false s x r e f = s

pub up_to_some : {A : Type 0} {p : Span} {P : Says A} (pass : Pass) (q : Quantity) (n : ℕ) → Headed p P →
    Sample (At p) (Up_to pass q n P)
up_to_some pass q n s = sample_case q (is_full pass q n) s.sample s.head s.rest s.tokens s.place

value_case : {A : Type 0} {p : Span} {P : Says A} (q : Quantity) (b : Bool) (s : Sample (At p) P) (x : Lexeme)
    (r : List Lexeme) (e : s.tokens ≡ x ∷ r) (f : x.place ≡ p) → (sample_case q b s x r e f).value ≡ s.value
unfolding sample_case
value_case q true s x r e f = refl
value_case q false s x r e f = refl

up_to_value : {A : Type 0} {p : Span} {P : Says A} (pass : Pass) (q : Quantity) (n : ℕ) (s : Headed p P) →
    (up_to_some pass q n s).value ≡ s.sample.value
unfolding up_to_some
up_to_value pass q n s = value_case q (is_full pass q n) s.sample s.head s.rest s.tokens s.place

-- ---- the productions

and_false : (a b : Bool) → b ≡ false → a && b ≡ false
and_false true b e = e
and_false false b e = refl

pub block_sample : {p : Span} {A B : Type 0} {P : Says A} {Q : A → Says B} (a : Sample (At p) P) →
    ((x : A) → Sample (At p) (Q x)) → Sample (At p) (Chain P Q)
block_sample {p} a f = let b =
    f a.value in record {
      tokens = a.tokens ++ b.tokens;
      value = (a.value, b.value);
      fault = first a.fault b.fault;
      means =
          (a.tokens, b.tokens, a.fault, b.fault, refl, a.means, b.means, refl);
      mild =
          mild_first (At p) a.fault b.fault a.mild b.mild;
    }

pub arrow_some : {A : Type 0} (p : Span) (P : Says A) → Sample (At p) P →
    (may : Bool) → may ≡ true → Sample (At p) (Opening may is_arrow then P)
arrow_some p P s true e = sample_then (sample_token (opens true (of is_arrow)) place (sign class.Arrow p) refl) s
arrow_some p P s false e = absurd cc

module _ {p : Span} (pass : Pass) (may : Bool) (L : Level) (R : LevelReader) (inner : Inner p L R) where
  -- expr ")"
  pub closed : Exact (At p) (L.expr false then Symbol is_right_paren) nothing
      (then_at (R.expr false) (symbol_at is_right_paren))
  closed = (join (inner.expr false) (symbol is_right_paren) (symbol_some is_right_paren class.RightParen refl)
      (apart goes is_right_paren refl)).exact

  pub closed_some : Sample (At p) (L.expr false then Symbol is_right_paren)
  closed_some = sample_then (inner.expr_some false) (symbol_some is_right_paren class.RightParen refl)

  pub typed_reads : Reads (At p) (Typed pass may L) (of is_left_paren) nothing (typed_at pass may R)
  unfolding typed_at
  typed_reads =
      let colon_some = sample_then (symbol_some is_colon class.Colon refl) closed_some in
      let named_some = sample_then (locally_some is_bname class.Wildcard refl) colon_some in
      let named = seq (locally is_bname) (seq (symbol is_colon) closed closed_some).exact colon_some in
      make typed_of (seq (opener may is_left_paren)
      (then_exact mark_exact named.exact named_some
      (leads_begins named.begins (apart is_digit is_bname refl))) (sample_then mark_some named_some))

  pub binder_reads : Reads (At p) (IsBinder pass may L) (of starts_binder) nothing (binder_at pass may R)
  unfolding binder_at
  binder_reads = starting (of starts_binder)
      (among_either (of is_bname) (of is_left_paren) (of starts_binder) (among is_bname starts_binder refl)
      (among is_left_paren starts_binder refl))
      (alt nothing (make plain (locally is_bname)) typed_reads (apart is_bname is_left_paren refl)
      (nothing_among nothing) (nothing_among nothing))

  pub binder_some : Sample (At p) (IsBinder pass may L)
  binder_some = record {
    tokens = word class.Wildcard p (codes "_") ∷ [];
    value = plain (local_of (word class.Wildcard p (codes "_")));
    fault = None;
    means =
        inl (
          local_of (word class.Wildcard p (codes "_")),
          (word class.Wildcard p (codes "_"), refl, refl, refl, refl),
          refl,
        );
    mild = tt;
  }

  pub lambda_reads : (tail : Bool) →
      Reads (At p) (Lambda pass may L tail) (of is_backslash) (of goes) (lambda_at pass may R tail)
  unfolding lambda_at
  lambda_reads tail =
      let behind = seq (symbol is_fat_arrow) (inner.expr tail).exact (inner.expr_some tail) in
      let behind_some = sample_then (symbol_some is_fat_arrow class.FatArrow refl) (inner.expr_some tail) in
      let more = many (of starts_binder) inner.binder (λ x e. refl) (among_self (of starts_binder))
      (nothing_among (of starts_binder)) in
      let all = seq inner.binder more (sample_many L.binder) in
      let all_some = sample_then inner.binder_some (sample_many L.binder) in
      make lambda_of (seq (opener may is_backslash)
      (join all behind behind_some (apart starts_binder is_fat_arrow refl)).exact
      (sample_then all_some behind_some))

  annotation_exact : Exact (At p) (IsAnnotation pass may L) (of goes_or_colon) (annotation_at pass may R)
  unfolding annotation_at
  annotation_exact = maybe untyped (of goes_or_colon)
      (make annotation_of (seq (symbol is_colon) (inner.expr false).exact (inner.expr_some false)))
      (among is_colon goes_or_colon refl) (among goes goes_or_colon refl)

  annotation_some : Sample (At p) (IsAnnotation pass may L)
  annotation_some = sample_none untyped (Making annotation_of (Symbol is_colon then L.expr false))

  pub let_head_reads : Reads (At p) (LetHead pass may L) (of is_let) (of goes) (let_head_at pass may R)
  unfolding let_head_at
  let_head_reads =
      let value = seq (symbol is_equals) (inner.expr false).exact (inner.expr_some false) in
      let value_some = sample_then (symbol_some is_equals class.Equals refl) (inner.expr_some false) in
      let behind = then_exact annotation_exact value.exact value_some
      (leads_begins value.begins (apart goes_or_colon is_equals refl)) in
      let behind_some = sample_then annotation_some value_some in
      let named = seq (locally is_bname) behind behind_some in
      let named_some = sample_then (locally_some is_bname class.Wildcard refl) behind_some in
      make let_parts (seq (opener may is_let)
      (then_exact mark_exact named.exact named_some
      (leads_begins named.begins (apart is_digit is_bname refl))) (sample_then mark_some named_some))

  pub letting_reads : (tail : Bool) →
      Reads (At p) (Letting pass may L tail) (of is_let) (of goes) (letting_at pass may R tail)
  unfolding letting_at
  letting_reads tail =
      make let_of (join let_head_reads (seq (symbol is_in) (inner.expr tail).exact (inner.expr_some tail))
      (sample_then (symbol_some is_in class.In refl) (inner.expr_some tail)) (apart goes is_in refl))

  bracket_reads : Reads (At p) (Bracket pass may L) (of is_left_paren) nothing (bracket_at pass may R)
  unfolding bracket_at
  bracket_reads = make bracket_of (seq (opener may is_left_paren) closed closed_some)

  other_atom_reads : Reads (At p) (OtherAtom pass may L) (of starts_other_atom) nothing (other_atom_at pass may R)
  unfolding other_atom_at
  other_atom_reads = starting (of starts_other_atom)
      (among_either (of is_word) (of is_left_paren) (of starts_other_atom) (among is_word starts_other_atom refl)
      (among is_left_paren starts_other_atom refl))
      (alt nothing (weighed (excess_of pass) (of is_word) (λ x. word_of x.class x)) bracket_reads
      (apart is_word is_left_paren refl) (nothing_among nothing) (nothing_among nothing))

  pub atom_reads : Reads (At p) (IsAtom pass may L) (of starts_atom) nothing (atom_at pass may R)
  unfolding atom_at
  atom_reads = starting (of starts_atom)
      (among_either (of is_name) (of starts_other_atom) (of starts_atom) (among is_name starts_atom refl)
      (among starts_other_atom starts_atom refl))
      (alt nothing (make name (tok (of is_name) named_of)) other_atom_reads (apart is_name starts_other_atom refl)
      (nothing_among nothing) (nothing_among nothing))

  atom_some : Sample (At p) (IsAtom pass may L)
  atom_some = let x = word class.Small p (codes "a") in
      record {
        tokens = x ∷ [];
        value = name (named_of x);
        fault = None;
        means = inl (named_of x, (x, refl, refl, refl, refl), refl);
        mild = tt;
      }

  atoms_exact : Exact (At p) (Atoms pass may L) (of starts_atom) (atoms_at pass may R)
  unfolding atoms_at
  atoms_exact = many (of starts_atom) (make written_of atom_reads) (λ x e. refl) (among_self (of starts_atom))
      (nothing_among (of starts_atom))

  atoms_some : Sample (At p) (Atoms pass may L)
  atoms_some = sample_many (Making written_of (IsAtom pass may L))

  brace_reads : Reads (At p) (Brace pass may L) (of is_left_brace) nothing (brace_at pass may R)
  unfolding brace_at
  brace_reads = make braced_of
      (seq (opener may is_left_brace)
      (join (inner.expr false) (symbol is_right_brace) (symbol_some is_right_brace class.RightBrace refl)
      (apart goes is_right_brace refl)).exact
      (sample_then (inner.expr_some false) (symbol_some is_right_brace class.RightBrace refl)))

  the_reads : Reads (At p) (The pass may L) (of is_the) nothing (the_at pass may R)
  unfolding the_at
  the_reads = make the_of (seq (symbol is_the) (seq atom_reads atom_reads.exact atom_some).exact
      (sample_then atom_some atom_some))

  named_app_reads : Reads (At p) (NamedApp pass may L) (of is_name) (of app_goes) (named_app_at pass may R)
  unfolding named_app_at
  named_app_reads =
      let braces = many (of is_left_brace) brace_reads (λ x e. refl) (among_self (of is_left_brace))
      (nothing_among (of is_left_brace)) in
      let atoms_begin = begins_wider (Making written_of (IsAtom pass may L)) (of starts_atom) (of starts_atom)
      (among_self (of starts_atom)) (make written_of atom_reads).begins in
      let behind = then_exact braces (wider_goes (of app_goes) (among starts_atom app_goes refl) atoms_exact)
      atoms_some (leads_many atoms_begin (apart is_left_brace starts_atom refl)
      (among is_left_brace app_goes refl)) in
      make named_app_of (seq (tok (of is_name) named_of) behind
      (sample_then (sample_many (Brace pass may L)) atoms_some))

  other_app_reads : Reads (At p) (OtherApp pass may L) (of starts_other_atom) (of starts_atom) (other_app_at pass may R)
  unfolding other_app_at
  other_app_reads = make other_app_of (place_of place (seq other_atom_reads atoms_exact atoms_some))

  pub app_reads : Reads (At p) (IsApp pass may L) (of starts_arrow) (of app_goes) (app_at pass may R)
  unfolding app_at
  app_reads =
      let plain_app = alt (of app_goes) named_app_reads other_app_reads (apart is_name starts_other_atom refl)
      (among_self (of app_goes)) (among starts_atom app_goes refl) in
      let plain_starts = starting (of starts_atom)
      (among_either (of is_name) (of starts_other_atom) (of starts_atom) (among is_name starts_atom refl)
      (among starts_other_atom starts_atom refl)) plain_app in
      starting (of starts_arrow)
      (among_either (of is_the) (of starts_atom) (of starts_arrow) (among is_the starts_arrow refl)
      (among starts_atom starts_arrow refl))
      (alt (of app_goes) the_reads plain_starts (apart is_the starts_atom refl) (nothing_among (of app_goes))
      (among_self (of app_goes)))

  behind_reads : Reads (At p) (Making behind_of (Opening may is_arrow then L.expr false)) (of is_arrow) (of goes)
      (making_at behind_of (then_at (opener_at may is_arrow) (R.expr false)))
  behind_reads = make behind_of (seq (opener may is_arrow) (inner.expr false).exact (inner.expr_some false))

  pub arrow_reads : Reads (At p) (Arrow pass may L) (of starts_arrow) (of goes) (arrow_at pass may R)
  unfolding arrow_at
  arrow_reads = make arrow_of
      (follow (place_of place app_reads)
      (maybe None (of goes) behind_reads (among is_arrow goes refl) (among_self (of goes)))
      (sample_none None (Making behind_of (Opening may is_arrow then L.expr false)))
      (leads_perhaps None behind_reads.begins (apart app_goes is_arrow refl) (among app_goes goes refl)))

  -- behind a binder another level may open, since its own did
  arrow_behind : (us : List Lexeme) (b : Binder) (o : Option Excess) → Typed pass may L us b o →
      Sample (At p) (Opening may is_arrow then L.expr false)
  arrow_behind us b o (v, (ws, vs, j, k, e, (x, f, h, w, i), rest, m), made) =
      arrow_some p (L.expr false) (inner.expr_some false) may (opens_both may (of is_left_paren x) h).0

  pub pi_reads : Reads (At p) (Pi pass may L) (of is_left_paren) (of goes) (pi_at pass may R)
  unfolding pi_at
  pi_reads = make pi_of (seq_if typed_reads
      (seq (opener may is_arrow) (inner.expr false).exact (inner.expr_some false)).exact arrow_behind
      leads_nothing)

  pub hole_reads : (tail : Bool) → Reads (At p) (Hole pass may L tail) (of is_hole) nothing (hole_at pass may R tail)
  unfolding hole_at
  hole_reads tail = starting (of is_hole) (λ x e. (opens_both tail (of is_hole x) e).1)
      (tok (opens tail (of is_hole)) (λ x. hole x.name x.place))

  -- ---- a block of statements

  line_reads : (tail : Bool) (l : Line) →
      Reads (At p) (Making next_of (Symbol is_next then Up_to pass quantity.Statements l.0 (L.statement tail)))
      (of is_next) (of goes_or_in) (line_at pass may R tail l)
  unfolding line_at
  line_reads tail l = make next_of
      (seq (symbol is_next)
      (up_to pass quantity.Statements R.bad_statement l.0 (inner.statement tail)
      (inner.statement_starts tail)).exact (up_to_some pass quantity.Statements l.0 (inner.statement_some tail)))

  pub lines_some : (tail : Bool) (l : Line) → Sample (At p) (Lines pass may L tail l)
  lines_some tail (n, Before) =
      let x = sign class.Next p in
      let u = up_to_some pass quantity.Statements n (inner.statement_some tail) in
      let v = up_to_value pass quantity.Statements n (inner.statement_some tail) in
      record {
        tokens = (x ∷ u.tokens) ++ [];
        value = u.value ∷ [];
        fault = first u.fault None;
        means = (
          x ∷ u.tokens,
          [],
          u.fault,
          None,
          refl,
          refl,
          (
            (p, u.value),
            (x ∷ [], u.tokens, None, u.fault, refl, (x, refl, refl, refl, refl), u.means, refl),
            refl,
          ),
          (
            refl,
            ap (λ (w : Statement). may_end (suc n, standing_of w)) v ∙ inner.statement_ends tail
                (suc n),
            refl,
          ),
          refl,
        );
        mild = mild_first (At p) u.fault None u.mild tt;
      }
  lines_some tail (n, Within) = record { tokens = []; value = []; fault = None; means = (refl, refl, refl); mild = tt }
  lines_some tail (n, Last) = record { tokens = []; value = []; fault = None; means = (refl, refl, refl); mild = tt }

  stops_lines : (l : Line) (ls : List Lexeme) → Stops (of next_or_goes) ls → may_go l && begins (of is_next) ls ≡ false
  stops_lines l ls e = and_false (may_go l) (begins (of is_next) ls)
      (stops_fewer (of is_next) (of next_or_goes) ls (among is_next next_or_goes refl) e)

  lines_exact : (tail : Bool) (l : Line) →
      Exact (At p) (Lines pass may L tail l) (of next_or_goes) (lines_at pass may R tail l)
  unfolding lines_at
  lines_exact tail l =
      run_exact (At p) may_end may_go next_line
      (λ l. Making next_of (Symbol is_next then Up_to pass quantity.Statements l.0 (L.statement tail)))
      (λ _. of is_next) (of goes_or_in) (of next_or_goes) (line_at pass may R tail)
      (λ l. (line_reads tail l).exact)
      (record {
        starts = λ l us rest a o m. (line_reads tail l).begins.at us rest a o m;
        apart = λ l ls go e. begins_apart (of goes_or_in) (of is_next) ls (apart goes_or_in is_next refl) e;
        last = λ l ls e. (
          stops_lines l ls e,
          stops_fewer (of goes_or_in) (of next_or_goes) ls
              (among goes_or_in next_or_goes refl) e,
        );
      })
      (lines_some tail) l

  pub doing_reads : (tail : Bool) → Reads (At p) (Doing pass may L tail) (of is_do) nothing (doing_at pass may R tail)
  unfolding doing_at
  doing_reads tail =
      let lines_lead = λ (s : Statement). leads_run may_end may_go next_line
      (λ l. Making next_of (Symbol is_next then Up_to pass quantity.Statements l.0 (L.statement tail)))
      (1, standing_of s) (λ l. (line_reads tail l).begins) (apart goes_or_in is_next refl)
      (among goes_or_in next_or_goes refl) in
      let block = bind (inner.statement tail) (λ s. lines_exact tail (1, standing_of s))
      (λ us s o m. lines_some tail (1, standing_of s)) lines_lead in
      let block_some = block_sample (inner.statement_some tail).sample (λ s. lines_some tail (1, standing_of s)) in
      let close_some = symbol_some is_close class.Close refl in
      let body = join block (symbol is_close) close_some (apart next_or_goes is_close refl) in
      let body_some = sample_then block_some close_some in
      make do_of (seq (opener may is_do) (seq (symbol is_open) body.exact body_some).exact
      (sample_then (symbol_some is_open class.Open refl) body_some))
