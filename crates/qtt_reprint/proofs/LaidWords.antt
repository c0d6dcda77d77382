-- The tokens of printed words are laid out with the marks that stand among the words.
-- ---- marks and tokens that printed words ask for
use Rattle.std.proofs.Common.{◌≡◌, ℕ, zero, suc, ◌+◌, ◌-◌, ◌<◌, ◌≤◌, ◌==◌, not, nat_le, pos, Bool, true, false, cond, List, [], ◌∷◌, ◌++◌, map, length, replicate, Option, Result, Ok, Err, refl, sym, ap, subst, ◌∙◌, append_assoc, add-one, arith, codes}
use Rattle.std.proofs.lemmas.List.{append-nil}
use Rattle.std.specs.Fmt as fmt
use Rattle.std.specs.Str.{chars}
use Rattle.qtt_base.specs.declared.place.Span.{Span}
use Rattle.qtt_lexer.specs.Place.{start, place_behind, place_after}
use Rattle.qtt_lexer.specs.Lexed.{token, Mistake}
use Rattle.qtt_lexer.specs.declared.place.Place.{Place}
use Rattle.qtt_lexer.specs.declared.token.Token.{Token}
use Rattle.qtt_lexer.specs.declared.token.TokenKind.TheVariants as kind
use Rattle.qtt_layout.specs.Rules as rules
use Rattle.qtt_layout.specs.Rules.{Put, role_of, newest, closes, without_newest, by_column, since_bracket, added, behind, put_before, by_put, by_role, put_from}
use Rattle.qtt_layout.specs.declared.block.Block.{Block}
use Rattle.qtt_layout.specs.declared.role.Role.{Role}
use Rattle.qtt_layout.specs.declared.role.Role.TheVariants as role
use Rattle.qtt_layout.specs.declared.laid.Laid.{Laid}
use Rattle.qtt_layout.specs.declared.laid.Laid.TheVariants.{Open, Next, Close, Tok}
use Rattle.qtt_syntax.specs.Words.{Word, Printed}
use Rattle.qtt_syntax.specs.Words.Word.{sign, named, numeral, bare_type, type_at, quoted, hole_named}
use Rattle.qtt_syntax.specs.Words.Printed.{word, blank, line, opened, next, closed}
use Rattle.qtt_reprint.specs.Sketch.{sign_kind}
use Rattle.qtt_reprint.proofs.Gives.{Each}
use Rattle.qtt_reprint.proofs.Lexing.{one_line, both, le_true}
use Rattle.qtt_reprint.proofs.LexedWords.{right_lexes, blank_chars, line_chars, no_chars, word_kind, word_token, word_tokens, behind_written, printed_tokens, Lexes, word_lexes}
use Rattle.qtt_reprint.proofs.Steps.{Left, spaced, Sign, IsWord, Mode, Ready, State, Under, block_at, Step, Runs}
use Rattle.qtt_reprint.proofs.Steps.Left.{free}
use Rattle.qtt_reprint.proofs.Steps.Sign.{module_sign, import_sign, data_sign, where_sign, do_sign, let_sign, in_sign, partial_sign, the_sign, left_sign, dot_sign, arrow_sign, left_arrow_sign, fat_arrow_sign, colon_sign, equals_sign, backslash_sign, brace_sign, end_brace_sign}
use Rattle.qtt_reprint.proofs.Steps.IsWord.{a_sign, a_name, a_numeral, a_type, a_level, a_text, a_hole}
use Rattle.qtt_reprint.proofs.Steps.Mode.{inline, fresh, opener, opening, stepping, broken}
use Rattle.qtt_reprint.proofs.Steps.Ready.{ready_inline, ready_fresh}
use Rattle.qtt_reprint.proofs.Steps.State.{at}
use Rattle.qtt_reprint.proofs.Steps.Step.{plain_word, opener_word, left_bracket, right_bracket, a_blank, breaks, resumes, ends_item, begins_item, opens, indents, empties, shuts}
use Rattle.qtt_reprint.proofs.Written.{each_wider}
use Rattle.qtt_reprint.proofs.WrittenItems.{Finished}
use Rattle.qtt_reprint.proofs.WrittenItems.Finished.{finished}
use Rattle.qtt_reprint.proofs.WordBlocks.{Shown, Emits, emits_none, emits_append, emits_blank, emits_line, emits_opened, emits_next, emits_closed, emits_more, suffix_exact, without_exact, without_none, not_most, due, some_put, same_line, next_put, between_put, opening_put}

-- ---- what the layout waits for where words lead from state to state

-- blocks that are open, and marks that come before the next token
record Waits (f : Span → List Laid) (bs : List Block) (k : ℕ) (e : Bool) (ls : rules.State)
    (pre : List Printed) : Type 0 where
  blocks : ls.blocks ≡ bs
  brackets : ls.brackets ≡ k
  awaits : ls.awaits ≡ e
  emits : (s : Span) → Emits (f s) pre

-- what the next token puts if it stands at this place
record Due (bs : List Block) (k : ℕ) (p : Place) (ls : rules.State) (pre : List Printed) : Type 0 where
  marks : Span → List Laid
  brackets : ls.brackets ≡ k
  put : (t : Token) → t.span.line ≡ p.line → t.span.col ≡ p.col → by_column ls t ≡ some_put (marks t.span) bs
  emits : (s : Span) → Emits (marks s) pre

abbrev Matches : State → Place → rules.State → List Printed → Type 0
Matches (at l (inline e shut) bs k) p ls pre = Waits (due e (length shut)) (bs ++ shut) k e ls pre × (ls.line ≡ p.line)
Matches (at l fresh bs k) p ls pre = Due bs k p ls pre
Matches (at l opener bs k) p ls pre = Waits (λ s. []) bs k true ls pre × (ls.line ≡ p.line)
Matches (at l opening bs k) p ls pre = Waits (λ s. Open s ∷ []) bs k true ls pre × (ls.line ≡ p.line)
Matches (at l (stepping e shut) bs k) p ls pre =
    Waits (λ s. due e (length shut) s ++ Next s ∷ []) (bs ++ shut) k e ls pre × (ls.line ≡ p.line)
Matches (at l (broken n e shut) bs k) p ls pre =
    Waits (due e (length shut)) (bs ++ shut) k e ls pre × ((ls.line < p.line) × (p.col ≡ n + 1))

ready_due : (l : Left) (m : Mode) (bs : List Block) (k : ℕ) (p : Place) (ls : rules.State) (pre : List Printed) →
    Ready m
    → Matches (at l m bs k) p ls pre → Due bs k p ls pre
ready_due l m bs k p ls pre ready_inline (w, e) = record {
  marks = λ s. [];
  brackets = w.brackets;
  put = λ t f g. same_line ls t bs (w.blocks ∙ append-nil bs) w.awaits (f ∙ sym e);
  emits = w.emits;
}
ready_due l m bs k p ls pre ready_fresh d = d

-- ---- tokens

data Usual : Role → Type 0 where
  usual_plain : Usual role.Plain
  usual_opener : Usual role.Opener
  usual_left : Usual role.LeftBracket

role_put : (r : Role) → Usual r → (ls : rules.State) (t : Token) (rest : rules.State → Result (List Laid) Mistake)
    → by_role r ls t rest ≡ by_put r ls t (by_column ls t) rest
role_put r usual_plain ls t rest = refl
role_put r usual_opener ls t rest = refl
role_put r usual_left ls t rest = refl

usual_added : (r : Role) → Usual r → (ls : rules.State) (t : Token) (bs : List Block) → added r ls t bs ≡ Tok t ∷ []
usual_added r usual_plain ls t bs = refl
usual_added r usual_opener ls t bs = refl
usual_added r usual_left ls t bs = refl

usual_blocks : (r : Role) → Usual r → (ls : rules.State) (t : Token) (bs : List Block) → (behind r ls t bs).blocks ≡ bs
usual_blocks r usual_plain ls t bs = without_none bs
usual_blocks r usual_opener ls t bs = without_none bs
usual_blocks r usual_left ls t bs = without_none bs

first_put : (r : Role) (ls : rules.State) (t : Token) (ts : List Token) → role_of t.kind ≡ r
    → put_from ls (t ∷ ts) ≡ by_role r ls t (λ n. put_from n ts)
unfolding put_from
first_put r ls t ts e = ap (λ (x : Role). by_role x ls t (λ n. put_from n ts)) e

module _ (bs : List Block) (k : ℕ) (p : Place) (ls : rules.State) (pre : List Printed) (d : Due bs k p ls pre) where
  token_put : (r : Role) → Usual r → (t : Token) (ts : List Token) → role_of t.kind ≡ r → t.span.line ≡ p.line →
      t.span.col ≡ p.col
      → put_from ls (t ∷ ts) ≡ put_before (d.marks t.span ++ Tok t ∷ []) (put_from (behind r ls t bs) ts)
  token_put r u t ts e f g =
      first_put r ls t ts e
      ∙ role_put r u ls t (λ n. put_from n ts)
      ∙ ap (λ (o : Option Put). by_put r ls t o (λ n. put_from n ts)) (d.put t f g)
      ∙ ap (λ (v : List Laid). put_before (d.marks t.span ++ v) (put_from (behind r ls t bs) ts))
      (usual_added r u ls t bs)

  -- a word's tokens, and the marks before them
  record Word_laid (w : Word) (r : Role) : Type 0 where
    marks : List Laid
    last : rules.State
    put : (ts : List Token) →
        put_from ls (word_tokens p w ++ ts) ≡ put_before (marks ++ map Tok (word_tokens p w)) (put_from last ts)
    emits : Emits marks pre
    blocks : last.blocks ≡ bs
    brackets : last.brackets ≡ rules.brackets_behind r k
    awaits : last.awaits ≡ rules.is_opener r
    line : last.line ≡ p.line

  single_laid : (w : Word) (r : Role) → Usual r → ((q : Place) → word_tokens q w ≡ word_token q w ∷ []) →
      role_of (word_kind w) ≡ r
      → Word_laid w r
  single_laid w r u t e =
      let tok = word_token p w in
      record {
        marks = d.marks tok.span;
        last = behind r ls tok bs;
        put = λ ts.
            ap (λ (v : List Token). put_from ls (v ++ ts)) (t p)
            ∙ token_put r u tok ts e refl refl
            ∙ ap (λ (v : List Token). put_before (d.marks tok.span ++ map Tok v)
            (put_from (behind r ls tok bs) ts)) (sym (t p));
        emits = d.emits tok.span;
        blocks = usual_blocks r u ls tok bs;
        brackets = ap (rules.brackets_behind r) d.brackets;
        awaits = refl;
        line = refl;
      }

put_put : (xs ys : List Laid) (r : Result (List Laid) Mistake) →
    put_before xs (put_before ys r) ≡ put_before (xs ++ ys) r
put_put xs ys (Ok zs) = ap Ok (sym (append_assoc xs ys zs))
put_put xs ys (Err m) = refl

-- behind a token on the same line
behind_due : (bs : List Block) (k : ℕ) (p : Place) (ls : rules.State) → ls.blocks ≡ bs → ls.brackets ≡ k →
    ls.awaits ≡ false
    → ls.line ≡ p.line → Due bs k p ls []
behind_due bs k p ls b i a e = record {
  marks = λ s. [];
  brackets = i;
  put = λ t f g. same_line ls t bs b a (f ∙ sym e);
  emits = λ s. emits_none;
}

level_laid : (bs : List Block) (k : ℕ) (p : Place) (ls : rules.State) (pre : List Printed) (d : Due bs k p ls pre)
    (l : ℕ)
    → Word_laid bs k p ls pre d (type_at l) role.Plain
unfolding behind_due
level_laid bs k p ls pre d l =
    let one = token kind.Type p (codes "Type") in
    let q = place_after p (codes "Type ") in
    let two = token (kind.Number (pos l)) q (fmt.decimal l) in
    let mid = behind role.Plain ls one bs in
    let e = behind_due bs k q mid (without_none bs) d.brackets refl refl in
    record {
      marks = d.marks one.span;
      last = behind role.Plain mid two bs;
      put = λ ts.
          token_put bs k p ls pre d role.Plain usual_plain one (two ∷ ts) refl refl refl
          ∙ ap (put_before (d.marks one.span ++ Tok one ∷ []))
          (token_put bs k q mid [] e role.Plain usual_plain two ts refl refl refl)
          ∙ put_put (d.marks one.span ++ Tok one ∷ []) (Tok two ∷ []) (put_from (behind role.Plain mid two bs) ts)
          ∙ ap (λ (v : List Laid). put_before v (put_from (behind role.Plain mid two bs) ts))
          (append_assoc (d.marks one.span) (Tok one ∷ []) (Tok two ∷ []));
      emits = d.emits one.span;
      blocks = without_none bs;
      brackets = d.brackets;
      awaits = refl;
      line = refl;
    }

sign_role : {s : List ℕ} {b : Left} {r : Role} → Sign s b r → role_of (sign_kind s) ≡ r
sign_role module_sign = refl
sign_role import_sign = refl
sign_role data_sign = refl
sign_role where_sign = refl
sign_role do_sign = refl
sign_role let_sign = refl
sign_role in_sign = refl
sign_role partial_sign = refl
sign_role the_sign = refl
sign_role left_sign = refl
sign_role dot_sign = refl
sign_role arrow_sign = refl
sign_role left_arrow_sign = refl
sign_role fat_arrow_sign = refl
sign_role colon_sign = refl
sign_role equals_sign = refl
sign_role backslash_sign = refl
sign_role brace_sign = refl
sign_role end_brace_sign = refl

name_role : (b : Bool) (n : List ℕ) → role_of (cond b kind.Wildcard (kind.Name n)) ≡ role.Plain
name_role true n = refl
name_role false n = refl

word_laid : (bs : List Block) (k : ℕ) (p : Place) (ls : rules.State) (pre : List Printed)
    (d : Due bs k p ls pre) {w : Word} {b : Left}
    {r : Role} → Usual r → IsWord w b r → Word_laid bs k p ls pre d w r
word_laid bs k p ls pre d u (a_sign {s} {b} {r} i) = single_laid bs k p ls pre d (sign s) r u (λ q. refl) (sign_role i)
word_laid bs k p ls pre d u (a_name {n} f) =
    single_laid bs k p ls pre d (named n) role.Plain u (λ q. refl) (name_role _ n)
word_laid bs k p ls pre d u (a_numeral {z} f) = single_laid bs k p ls pre d (numeral z) role.Plain u (λ q. refl) refl
word_laid bs k p ls pre d u a_type = single_laid bs k p ls pre d bare_type role.Plain u (λ q. refl) refl
word_laid bs k p ls pre d u (a_level {l} f) = level_laid bs k p ls pre d l
word_laid bs k p ls pre d u (a_text {v} f) = single_laid bs k p ls pre d (quoted v) role.Plain u (λ q. refl) refl
word_laid bs k p ls pre d u (a_hole {n} f) = single_laid bs k p ls pre d (hole_named n) role.Plain u (λ q. refl) refl

-- ---- places

line_case : (a b : Bool) (p : Place) (x y z : Place) → not a ≡ true → y.line ≡ p.line → z.line ≡ p.line
    → (cond a x (cond b y z)).line ≡ p.line
line_case true b p x y z e f g = absurd cc
line_case false true p x y z e f g = f
line_case false false p x y z e f g = g

stays_on_line : (cs : List ℕ) (p : Place) → one_line cs ≡ true → (place_after p cs).line ≡ p.line
stays_on_line [] p e = refl
stays_on_line (c ∷ cs) p e =
    let g = both (not (c == 10)) (one_line cs) e in
    stays_on_line cs (place_behind p c) g.1 ∙ line_case (c == 10) (c == 9) p _ _ _ g.0 refl refl

word_line : {w : Word} {b : Left} (p : Place) → Lexes w b → (behind_written p (word w)).line ≡ p.line
word_line p x = ap (λ (cs : List ℕ). (place_after p cs).line) x.are ∙ stays_on_line (x.head ∷ x.tail) p x.one_line

blanks_line : (n : ℕ) (p : Place) → (place_after p (replicate n 32)).line ≡ p.line
blanks_line zero p = refl
blanks_line (suc n) p = blanks_line n (place_behind p 32)

blanks_col : (n : ℕ) (p : Place) → (place_after p (replicate n 32)).col ≡ p.col + n
blanks_col zero p = omega arith
blanks_col (suc n) p = blanks_col n (place_behind p 32) ∙ omega arith

blank_place_line : (p : Place) → (behind_written p blank).line ≡ p.line
blank_place_line p = ap (λ (cs : List ℕ). (place_after p cs).line) blank_chars

blank_place_col : (p : Place) → (behind_written p blank).col ≡ p.col + 1
blank_place_col p = ap (λ (cs : List ℕ). (place_after p cs).col) blank_chars

line_place_line : (p : Place) (n : ℕ) → (behind_written p (line n)).line ≡ p.line + 1
line_place_line p n = ap (λ (cs : List ℕ). (place_after p cs).line) (line_chars n) ∙ blanks_line n (place_behind p 10)

line_place_col : (p : Place) (n : ℕ) → (behind_written p (line n)).col ≡ n + 1
line_place_col p n = ap (λ (cs : List ℕ). (place_after p cs).col) (line_chars n) ∙ blanks_col n
    (place_behind p 10) ∙ omega arith

-- nothing is written for a mark
mark_place : (p : Place) → place_after p (chars []) ≡ p
mark_place p = ap (place_after p) no_chars

-- ---- from state to state between words

module _ (f : Span → List Laid) (bs : List Block) (k : ℕ) (e : Bool) (ls : rules.State) (pre : List Printed)
    (w : Waits f bs k e ls pre) where
  waits_on : (q : Printed) → Emits [] (q ∷ []) → Waits f bs k e ls (pre ++ q ∷ [])
  waits_on q g = record {
    blocks = w.blocks;
    brackets = w.brackets;
    awaits = w.awaits;
    emits = λ s. emits_more (f s) pre q (w.emits s) g;
  }

  waits_more : (g h : Span → List Laid) (ds : List Block) (q : Printed) → bs ≡ ds → ((s : Span) → Emits (g s) (q ∷ []))
      → ((s : Span) → f s ++ g s ≡ h s) → Waits h ds k e ls (pre ++ q ∷ [])
  waits_more g h ds q b i j = record {
    blocks = w.blocks ∙ b;
    brackets = w.brackets;
    awaits = w.awaits;
    emits = λ s. subst (λ (v : List Laid). Emits v (pre ++ q ∷ [])) (j s)
        (emits_append (f s) (g s) pre (q ∷ []) (w.emits s) (i s));
  }

closes_more : (n : ℕ) (s : Span) → closes n s ++ Close s ∷ [] ≡ Close s ∷ closes n s
closes_more zero s = refl
closes_more (suc n) s = ap (λ (v : List Laid). Close s ∷ v) (closes_more n s)

due_more : (e : Bool) (n : ℕ) (s : Span) → due e n s ++ Close s ∷ [] ≡ due e (suc n) s
due_more true n s = ap (λ (v : List Laid). Open s ∷ Close s ∷ v) (closes_more n s)
due_more false n s = closes_more n s

-- a step that is no word's
blank_match : (l : Left) (bs : List Block) (k : ℕ) (p : Place) (ls : rules.State) (pre : List Printed)
    → Matches (at l (inline false []) bs k) p ls pre
    → Matches (at (spaced l) (inline false []) bs k) (behind_written p blank) ls (pre ++ blank ∷ [])
blank_match l bs k p ls pre (w, e) =
    (waits_on (due false 0) (bs ++ []) k false ls pre w blank emits_blank, e ∙ sym (blank_place_line p))

break_match : (l : Left) (e : Bool) (shut bs : List Block) (k n : ℕ) (p : Place) (ls : rules.State) (pre : List Printed)
    → Matches (at l (inline e shut) bs k) p ls pre
    → Matches (at (spaced l) (broken n e shut) bs k) (behind_written p (line n)) ls (pre ++ line n ∷ [])
break_match l e shut bs k n p ls pre (w, h) = (
  waits_on (due e (length shut)) (bs ++ shut) k e ls pre w (line n) (emits_line n),
  (
    omega
        (arith, h, line_place_line p n),
    line_place_col p n,
  ),
)

resume_match : (l : Left) (n : ℕ) (shut bs : List Block) (k : ℕ) (p : Place) (ls : rules.State) (pre : List Printed)
    → Each (λ x. n + 2 < x.col) shut → Under (λ x. x.col < n + 2) bs →
    Matches (at l (broken n false shut) bs k) p ls pre
    → Matches (at l fresh bs k) (behind_written p blank) ls (pre ++ blank ∷ [])
resume_match l n shut bs k p ls pre d u (w, (h, c)) =
    let more = waits_on (due false (length shut)) (bs ++ shut) k false ls pre w blank emits_blank in
    record {
      marks = due false (length shut);
      brackets = w.brackets;
      put = λ t f g.
          let col : t.span.col ≡ n + 2 = omega (arith, g, blank_place_col p, c) in
          between_put ls t bs shut (record
          { others = u.others; newest = u.newest; are = u.are; is = omega (arith, u.is, col) }) w.blocks
          w.awaits (each_wider {P = λ x. n + 2 < x.col} {Q = λ x. t.span.col < x.col} shut
          (λ x y. omega (arith, y, col)) d)
          (omega (arith, h, f, blank_place_line p));
      emits = more.emits;
    }

end_match : (l : Left) (e : Bool) (shut bs : List Block) (k : ℕ) (p : Place) (ls : rules.State) (pre : List Printed)
    → Matches (at l (inline e shut) bs k) p ls pre →
    Matches (at l (stepping e shut) bs k) (behind_written p next) ls (pre ++ next ∷ [])
end_match l e shut bs k p ls pre (w, h) = (
  waits_more (due e (length shut)) (bs ++ shut) k e ls pre w (λ s. Next s ∷ [])
      (λ s. due e (length shut) s ++ Next s ∷ [])
      (bs ++ shut) next refl emits_next (λ s. refl),
  h ∙ sym (ap (λ (q : Place). q.line) (mark_place p)),
)

begin_match : (l : Left) (e : Bool) (shut bs : List Block) (k n : ℕ) (p : Place) (ls : rules.State) (pre : List Printed)
    → Each (λ x. n + 1 < x.col) shut → Under (λ x. x.col ≡ n + 1) bs → Matches (at l (stepping e shut) bs k) p ls pre
    → Matches (at free fresh bs k) (behind_written p (line n)) ls (pre ++ line n ∷ [])
begin_match l e shut bs k n p ls pre d u (w, h) =
    let f : Span → List Laid = λ s. due e (length shut) s ++ Next s ∷ [] in
    let more = waits_on f (bs ++ shut) k e ls pre w (line n) (emits_line n) in
    record {
      marks = f;
      brackets = w.brackets;
      put = λ t i g.
          let col : t.span.col ≡ n + 1 = g ∙ line_place_col p n in
          next_put ls t e bs shut (record
          { others = u.others; newest = u.newest; are = u.are; is = u.is ∙ sym col }) w.blocks w.awaits
          (each_wider {P = λ x. n + 1 < x.col} {Q = λ x. t.span.col < x.col} shut (λ x y. omega (arith, y, col)) d)
          (omega (arith, h, i, line_place_line p n));
      emits = more.emits;
    }

open_match : (l : Left) (bs : List Block) (k : ℕ) (p : Place) (ls : rules.State) (pre : List Printed) →
    Matches (at l opener bs k) p ls pre
    → Matches (at l opening bs k) (behind_written p opened) ls (pre ++ opened ∷ [])
open_match l bs k p ls pre (w, h) = (
  waits_more (λ s. []) bs k true ls pre w (λ s. Open s ∷ []) (λ s. Open s ∷ []) bs opened refl emits_opened (λ s. refl),
  h ∙ sym (ap
      (λ (q : Place). q.line) (mark_place p)),
)

indent_match : (l : Left) (bs : List Block) (k n : ℕ) (p : Place) (ls : rules.State) (pre : List Printed) →
    Under (λ x. x.col < n + 1) bs
    → Matches (at l opening bs k) p ls pre
    → Matches (at free fresh (bs ++ block_at (n + 1) k ∷ []) k) (behind_written p (line n)) ls (pre ++ line n ∷ [])
indent_match l bs k n p ls pre u (w, h) =
    let f : Span → List Laid = λ s. Open s ∷ [] in
    let more = waits_on f bs k true ls pre w (line n) (emits_line n) in
    record {
      marks = f;
      brackets = w.brackets;
      put = λ t i g.
          let col : t.span.col ≡ n + 1 = g ∙ line_place_col p n in
          opening_put ls t bs k (record
          { others = u.others; newest = u.newest; are = u.are; is = omega (arith, u.is, col) }) w.blocks
          w.awaits w.brackets
          ∙ ap (λ (c : ℕ). some_put (Open t.span ∷ []) (bs ++ block_at c k ∷ [])) col;
      emits = more.emits;
    }

empty_match : (l : Left) (bs : List Block) (k : ℕ) (p : Place) (ls : rules.State) (pre : List Printed)
    → Matches (at l opening bs k) p ls pre →
    Matches (at l (inline true []) bs k) (behind_written p closed) ls (pre ++ closed ∷ [])
empty_match l bs k p ls pre (w, h) = (
  waits_more (λ s. Open s ∷ []) bs k true ls pre w (λ s. Close s ∷ []) (due true 0) (bs ++ []) closed
      (sym (append-nil bs)) emits_closed
      (λ s. refl),
  h ∙ sym (ap (λ (q : Place). q.line) (mark_place p)),
)

shut_match : (l : Left) (e : Bool) (shut bs others : List Block) (x : Block) (k : ℕ) (p : Place)
    (ls : rules.State) (pre : List Printed)
    → bs ≡ others ++ x ∷ [] → Matches (at l (inline e shut) bs k) p ls pre
    → Matches (at l (inline e (x ∷ shut)) others k) (behind_written p closed) ls (pre ++ closed ∷ [])
shut_match l e shut bs others x k p ls pre b (w, h) = (
  waits_more (due e (length shut)) (bs ++ shut) k e ls pre w (λ s. Close s ∷ []) (due e (length (x ∷ shut)))
      (others ++ x ∷ shut) closed
      (ap (λ (v : List Block). v ++ shut) b ∙ append_assoc others (x ∷ []) shut) emits_closed
      (λ s. due_more e (length shut) s),
  h ∙ sym (ap
      (λ (q : Place). q.line) (mark_place p)),
)

-- ---- the whole text

pub record Laid_as (ls : rules.State) (ts : List Token) (ps : List Printed) : Type 0 where
  pub marks : List Laid
  pub put : put_from ls ts ≡ Ok marks
  pub shown : Shown marks ps

-- the tokens of a word, and those that follow
word_first : (w : Word) (p : Place) (ls last : rules.State) (pre ps : List Printed) (ms : List Laid) (ts : List Token)
    → put_from ls (word_tokens p w ++ ts) ≡ put_before (ms ++ map Tok (word_tokens p w)) (put_from last ts) →
    Emits ms pre
    → Laid_as last ts ps → Laid_as ls (word_tokens p w ++ ts) (pre ++ word w ∷ ps)
word_first w p ls last pre ps ms ts e f y = record {
  marks = (ms ++ map Tok (word_tokens p w)) ++ y.marks;
  put = e ∙ ap (put_before (ms ++ map Tok (word_tokens p w))) y.put;
  shown =
      subst (λ (v : List Laid). Shown v (pre ++ word w ∷ ps))
      (sym (append_assoc ms (map Tok (word_tokens p w)) y.marks))
      (f.shown (map Tok (word_tokens p w) ++ y.marks) (word w ∷ ps) (p, (y.marks, (refl, y.shown))));
}

tokens_split : (ls : rules.State) (us vs ts : List Token) (ps : List Printed) → Laid_as ls (us ++ (vs ++ ts)) ps
    → Laid_as ls ((us ++ vs) ++ ts) ps
tokens_split ls us vs ts ps y = subst (λ (v : List Token). Laid_as ls v ps) (sym (append_assoc us vs ts)) y

mark_split : (ls : rules.State) (ts : List Token) (pre ps : List Printed) (q : Printed) →
    Laid_as ls ts ((pre ++ q ∷ []) ++ ps)
    → Laid_as ls ts (pre ++ q ∷ ps)
mark_split ls ts pre ps q y = subst (Laid_as ls ts) (append_assoc pre (q ∷ []) ps) y

-- `)` closes the blocks behind it
abbrev right_token : Place → Token
right_token p = word_token p (sign (codes ")"))

since_exact : (k : ℕ) (bs shut : List Block) → Each (λ x. suc k ≤ x.brackets) shut → Under (λ x. x.brackets ≤ k) bs
    → since_bracket (suc k) (bs ++ shut) ≡ length shut
since_exact k bs shut d u =
    suffix_exact (λ (x : Block). nat_le (suc k) x.brackets) bs shut u.others u.newest u.are
    (each_wider {P = λ x. suc k ≤ x.brackets} {Q = λ x. nat_le (suc k) x.brackets ≡ true} shut
    (λ x h. le_true (suc k) x.brackets h) d)
    (not_most (suc k) u.newest.brackets (omega (arith, u.is)))

right_put : (bs shut : List Block) (k : ℕ) (p : Place) (ls : rules.State) (pre : List Printed) (ts : List Token)
    → Each (λ x. suc k ≤ x.brackets) shut → Under (λ x. x.brackets ≤ k) bs
    → (w : Waits (due false (length shut)) (bs ++ shut) (suc k) false ls pre) → ls.line ≡ p.line
    → put_from ls (word_tokens p (sign (codes ")")) ++ ts)
    ≡ put_before (due false (length shut) (right_token p).span ++ Tok (right_token p) ∷ [])
    (put_from (behind role.RightBracket ls (right_token p) (bs ++ shut)) ts)
right_put bs shut k p ls pre ts d u w h =
    let t = right_token p in
    let all = bs ++ shut in
    first_put role.RightBracket ls t ts refl
    ∙ ap (λ (o : Option Put). by_put role.RightBracket ls t o (λ n. put_from n ts))
    (same_line ls t all w.blocks w.awaits (sym h))
    ∙ ap (λ (n : ℕ). put_before (closes n t.span ++ Tok t ∷ []) (put_from (behind role.RightBracket ls t all) ts))
    (ap (λ (n : ℕ). since_bracket n all) w.brackets ∙ since_exact k bs shut d u)

right_match : (bs shut : List Block) (k : ℕ) (p : Place) (ls : rules.State) (pre : List Printed) →
    Each (λ x. suc k ≤ x.brackets) shut
    → Under (λ x. x.brackets ≤ k) bs → Waits (due false (length shut)) (bs ++ shut) (suc k) false ls pre
    → Waits (due false 0) (bs ++ []) k false (behind role.RightBracket ls (right_token p) (bs ++ shut)) []
right_match bs shut k p ls pre d u w =
    let all = bs ++ shut in
    record {
      blocks =
          ap (λ (n : ℕ). without_newest n all)
          (ap (λ (n : ℕ). since_bracket n all) w.brackets ∙ since_exact k bs shut d u)
          ∙ without_exact bs shut
          ∙ sym (append-nil bs);
      brackets = omega (arith, w.brackets);
      awaits = refl;
      emits = λ s. emits_none;
    }

-- behind the last line feed
end_laid : (e : Bool) (shut : List Block) (ls : rules.State) (pre : List Printed) (q : Place)
    → Waits (due e (length shut)) ([] ++ shut) 0 e ls pre → Laid_as ls (token kind.End q [] ∷ []) (pre ++ [])
end_laid e shut ls pre q w =
    let t = token kind.End q [] in
    record {
      marks = due e (length shut) t.span ++ [];
      put =
          first_put role.End ls t [] refl
          ∙ ap (λ (v : Bool). Ok (cond v (Open t.span ∷ Close t.span ∷ []) [] ++ closes
          (length ls.blocks) t.span)) w.awaits
          ∙ ap (λ (v : List Block). Ok (cond e (Open t.span ∷ Close t.span ∷ []) [] ++ closes (length v) t.span))
          w.blocks
          ∙ ap Ok (sym (append-nil (due e (length shut) t.span)));
      shown = (w.emits t.span).shown [] [] refl;
    }

finish : (u : State) (p : Place) (ls : rules.State) (pre : List Printed) (q : Place) → Finished u → Matches u p ls pre
    → Laid_as ls (token kind.End q [] ∷ []) (pre ++ [])
finish u p ls pre q (finished l e shut) (w, h) = end_laid e shut ls pre q w

lay_step : (x : Printed) (ps : List Printed) (s v : State) (q : Place) → Step s x v
    → ((p : Place) (ls : rules.State) (pre : List Printed) → Matches v p ls pre
    → Laid_as ls (printed_tokens p ps ++ token kind.End q [] ∷ []) (pre ++ ps))
    → (p : Place) (ls : rules.State) (pre : List Printed) → Matches s p ls pre
    → Laid_as ls (printed_tokens p (x ∷ ps) ++ token kind.End q [] ∷ []) (pre ++ x ∷ ps)
lay_step x ps s v q (plain_word {l} {b} {m} {bs} {k} {w} rd i f) rest p ls pre t =
    let d = ready_due l m bs k p ls pre rd t in
    let y = word_laid bs k p ls pre d usual_plain i in
    let z =
    rest (behind_written p (word w)) y.last [] (
      record {
        blocks = y.blocks ∙ sym (append-nil bs);
        brackets = y.brackets;
        awaits = y.awaits;
        emits = λ s. emits_none;
      },
      y.line ∙ sym
          (word_line p (word_lexes i)),
    )
    in
    tokens_split ls (word_tokens p w) _ _ (pre ++ word w ∷ ps)
    (word_first w p ls y.last pre ps y.marks _ (y.put _) y.emits z)
lay_step x ps s v q (opener_word {l} {b} {m} {bs} {k} {w} rd i f) rest p ls pre t =
    let d = ready_due l m bs k p ls pre rd t in
    let y = word_laid bs k p ls pre d usual_opener i in
    let z =
    rest (behind_written p (word w)) y.last [] (
      record { blocks = y.blocks; brackets = y.brackets; awaits = y.awaits; emits = λ s. emits_none },
      y.line ∙ sym (word_line p
          (word_lexes i)),
    )
    in
    tokens_split ls (word_tokens p w) _ _ (pre ++ word w ∷ ps)
    (word_first w p ls y.last pre ps y.marks _ (y.put _) y.emits z)
lay_step x ps s v q (left_bracket {l} {b} {m} {bs} {k} {w} rd i f) rest p ls pre t =
    let d = ready_due l m bs k p ls pre rd t in
    let y = word_laid bs k p ls pre d usual_left i in
    let z =
    rest (behind_written p (word w)) y.last [] (
      record {
        blocks = y.blocks ∙ sym
            (append-nil bs);
        brackets = y.brackets ∙ add-one k;
        awaits = y.awaits;
        emits = λ s. emits_none;
      },
      y.line ∙ sym (word_line p
          (word_lexes i)),
    )
    in
    tokens_split ls (word_tokens p w) _ _ (pre ++ word w ∷ ps)
    (word_first w p ls y.last pre ps y.marks _ (y.put _) y.emits z)
lay_step x ps s v q (right_bracket {l} {shut} {bs} {k} o d u) rest p ls pre (w, h) =
    let tok = right_token p in
    let last = behind role.RightBracket ls tok (bs ++ shut) in
    let z =
    rest (behind_written p (word (sign (codes ")")))) last []
    (right_match bs shut k p ls pre d u w, sym (word_line p right_lexes)) in
    word_first (sign (codes ")")) p ls last pre ps (due false (length shut) tok.span) _
    (right_put bs shut k p ls pre _ d u w h)
    (w.emits tok.span) z
lay_step x ps s v q (a_blank {l} {bs} {k}) rest p ls pre t =
    mark_split ls _ pre ps blank (rest (behind_written p blank) ls (pre ++ blank ∷ []) (blank_match l bs k p ls pre t))
lay_step x ps s v q (breaks {l} {e} {shut} {bs} {k} n) rest p ls pre t =
    mark_split ls _ pre ps (line n)
    (rest (behind_written p (line n)) ls (pre ++ line n ∷ []) (break_match l e shut bs k n p ls pre t))
lay_step x ps s v q (resumes {l} {n} {shut} {bs} {k} d u) rest p ls pre t =
    mark_split ls _ pre ps blank
    (rest (behind_written p blank) ls (pre ++ blank ∷ []) (resume_match l n shut bs k p ls pre d u t))
lay_step x ps s v q (ends_item {l} {e} {shut} {bs} {k}) rest p ls pre t =
    mark_split ls _ pre ps next
    (rest (behind_written p next) ls (pre ++ next ∷ []) (end_match l e shut bs k p ls pre t))
lay_step x ps s v q (begins_item {l} {e} {shut} {bs} {k} {n} d u) rest p ls pre t =
    mark_split ls _ pre ps (line n)
    (rest (behind_written p (line n)) ls (pre ++ line n ∷ []) (begin_match l e shut bs k n p ls pre d u t))
lay_step x ps s v q (opens {l} {bs} {k}) rest p ls pre t =
    mark_split ls _ pre ps opened
    (rest (behind_written p opened) ls (pre ++ opened ∷ []) (open_match l bs k p ls pre t))
lay_step x ps s v q (indents {l} {bs} {k} {n} u) rest p ls pre t =
    mark_split ls _ pre ps (line n)
    (rest (behind_written p (line n)) ls (pre ++ line n ∷ []) (indent_match l bs k n p ls pre u t))
lay_step x ps s v q (empties {l} {bs} {k}) rest p ls pre t =
    mark_split ls _ pre ps closed
    (rest (behind_written p closed) ls (pre ++ closed ∷ []) (empty_match l bs k p ls pre t))
lay_step x ps s v q (shuts {l} {e} {shut} {bs} {others} {x = y} {k} b) rest p ls pre t =
    mark_split ls _ pre ps closed
    (rest (behind_written p closed) ls (pre ++ closed ∷ []) (shut_match l e shut bs others y k p ls pre b t))

lay : (ps : List Printed) (s u : State) → Runs s ps u → Finished u →
    (q p : Place) (ls : rules.State) (pre : List Printed)
    → Matches s p ls pre → Laid_as ls (printed_tokens p ps ++ token kind.End q [] ∷ []) (pre ++ ps)
lay [] s u e fin q p ls pre t = finish u p ls pre q fin (subst (λ (x : State). Matches x p ls pre) e t)
lay (x ∷ ps) s u (v, (t, r)) fin q p ls pre m =
    lay_step x ps s v q t (λ p ls pre n. lay ps v u r fin q p ls pre n) p ls pre m

-- the first token opens the module's block
start_due : Due (block_at 1 0 ∷ []) 0 start rules.start (opened ∷ [])
start_due = record {
  marks = λ s. Open s ∷ [];
  brackets = refl;
  put = λ t f g. ap (λ (c : ℕ). some_put (Open t.span ∷ []) (block_at c 0 ∷ [])) g;
  emits = emits_opened;
}

-- the tokens of words that lead from a module's start to its end are laid out with the marks among the words
pub words_laid : (ps : List Printed) (u : State) → Runs (at free fresh (block_at 1 0 ∷ []) 0) ps u → Finished u →
    (q : Place)
    → Laid_as rules.start (printed_tokens start ps ++ token kind.End q [] ∷ []) (opened ∷ ps)
words_laid ps u r fin q =
    lay ps (at free fresh (block_at 1 0 ∷ []) 0) u r fin q start rules.start (opened ∷ []) start_due
