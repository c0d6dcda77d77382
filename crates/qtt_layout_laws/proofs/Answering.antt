-- The layout of tokens is that of their blocks.
use Rattle.std.proofs.Common.{◌≡◌, ◌≢◌, ◌⊎◌, ℕ, ◌<◌, Bool, true, false, cond, List, [], ◌∷◌, ◌++◌, Some, Ok, Err, refl, sym, ap, ◌∙◌, subst, arith, inl, inr}
use Rattle.qtt_lexer.specs.Lexed.{Mistake}
use Rattle.qtt_lexer.specs.declared.token.Token.{Token}
use Rattle.qtt_lexer.specs.declared.token.TokenKind.TheVariants as kind
use Rattle.qtt_layout.specs.Marks.{counted}
use Rattle.qtt_layout.specs.Laws.{has_end}
use Rattle.qtt_layout.specs.Rules.{start, role_of, aligned_at, put_before, counted_of, laid}
use Rattle.qtt_layout.specs.declared.block.Block as code
use Rattle.qtt_layout.specs.declared.laid.Laid.{Laid}
use Rattle.qtt_layout.specs.declared.laid.Laid.TheVariants.{Open, Close}
use Rattle.qtt_layout.specs.declared.role.Role.{Role}
use Rattle.qtt_layout_laws.specs.Words.{Word, kind_of, place_of, column_of, words, HasEnd}
use Rattle.qtt_layout_laws.specs.Blocks.{Ends, Block}
use Rattle.qtt_layout_laws.specs.Texts.{LaysOut, Refuses, bad_indent}
use Rattle.qtt_layout_laws.specs.Laws.{LayoutIsByColumns, LayoutHasOneAnswer}
use Rattle.qtt_layout_laws.proofs.Machine.{Answer, ◌▸◌, state, stand, by_found, at_word, run, same_run, not_end}
use Rattle.qtt_layout_laws.proofs.RoleFacts.{Decided, end_or, end_role, not_end_role}
use Rattle.qtt_layout_laws.proofs.Counted.{counted_is, counts}
use Rattle.qtt_layout_laws.proofs.Agreement.{Same, onto, ends_block, closes_at_line, closes_at_end, within_agrees}
use Rattle.qtt_layout_laws.proofs.Existence.{WordsEnd, words_end, none_end, BlockFound, block_exists}
use Rattle.qtt_layout_laws.proofs.Ending.{texts_end, end_found}

-- ---- the outermost block

abbrev brackets_before : List Word → ℕ
brackets_before [] = 0
brackets_before (w ∷ ws) = w.brackets

-- no bracket is open before the first token
first_brackets : (ts : List Token) (b : Word) (ws : List Word) → words ts ≡ b ∷ ws → b.brackets ≡ 0
first_brackets [] b ws e = absurd (let g = e in cc)
first_brackets (t ∷ ts) b ws e = sym (ap brackets_before e)

-- and so no `)` ends the outermost block
left_of : (b e : Word) → b.brackets ≡ 0 → kind_of e ≢ kind.End → Ends b e →
    (e.is_first ≡ true) × (column_of e < column_of b)
left_of b e none k (Ends.at_end h) = absurd (k h)
left_of b e none k (Ends.at_line f lt) = (f, lt)
left_of b e none k (Ends.at_bracket h pos le) = absurd (omega (arith, none, pos, le))

filled_agrees : {b e : Word} {ws es : List Word} {ns : List Laid} → Block b ws e es ns → b.brackets ≡ 0 →
    kind_of b ≢ kind.End →
    Same (stand (role_of (kind_of b)) ([] ▸ b) b (run ws)) (put_before ns (run (e ∷ es) false ([] ▸ b)))
filled_agrees (Block.bare {b} h) none k = let lt = (left_of b b none k h).1 in absurd (omega (arith, lt))
filled_agrees (Block.filled n d) none k = within_agrees [] d n

text_agrees : (ts : List Token) {b e : Word} {ws es : List Word} {ns : List Laid} → words ts ≡ b ∷ ws →
    kind_of b ≢ kind.End → Block b ws e es ns →
    laid ts ≡ counted_of (put_before (Open (place_of b) ∷ ns) (run (e ∷ es) false ([] ▸ b)))
unfolding laid
text_agrees ts {b} {e} {ws} {es} {ns} is k d =
    let r = role_of (kind_of b) in
    ap counted_of (same_run ts start ∙ ap (λ (l : List Word). run l true []) is
    ∙ not_end r true [] b (run ws) (not_end_role (kind_of b) k))
    ∙ onto (Open (place_of b) ∷ []) ns (stand r ([] ▸ b) b (run ws)) (run (e ∷ es) false ([] ▸ b))
    (filled_agrees d (first_brackets ts b ws is) k)

left_by : (r : Role) (e : Word) (rest : Bool → List code.Block → Answer) (f : Bool) → f ≡ true →
    by_found r e (cond f (aligned_at (state false []) (place_of e)) (Some (record { marks = []; blocks = [] }))) rest ≡
    Err (bad_indent e)
left_by r e rest true h = refl
left_by r e rest false h = absurd (let g = h in cc)

left_of_all : (e : Word) (es : List Word) → kind_of e ≢ kind.End → e.is_first ≡ true →
    run (e ∷ es) false [] ≡ Err (bad_indent e)
left_of_all e es k f =
    let r = role_of (kind_of e) in
    not_end r false [] e (run es) (not_end_role (kind_of e) k) ∙ left_by r e (run es) e.is_first f

ends_all : (e : Word) (es : List Word) → kind_of e ≡ kind.End → run (e ∷ es) false [] ≡ Ok []
ends_all e es k = ap (λ (r : Role). at_word r false [] e (run es)) (end_role k)

-- ---- what blocks lay out is laid out so

pub is_laid : (ts : List Token) (ms : List Laid) → LaysOut ts ms → laid ts ≡ Ok ms
unfolding laid
is_laid ts ms (LaysOut.empty {e} {es} is k same) =
    ap counted_of (same_run ts start ∙ ap (λ (l : List Word). run l true []) is
    ∙ ap (λ (r : Role). at_word r true [] e (run es)) (end_role k))
    ∙ ap Ok (sym same)
is_laid ts ms (LaysOut.whole {b} {e} {ws} {es} {ns} is k d over counted_so) =
    text_agrees ts is k d
    ∙ ap (λ (r : Answer). counted_of (put_before (Open (place_of b) ∷ ns) r))
    (closes_at_end [] b e es over ∙ ap (put_before (Close (place_of e) ∷ [])) (ends_all e es over))
    ∙ ap Ok (counted_is counted_so)

pub is_refused : (ts : List Token) (m : Mistake) → Refuses ts m → laid ts ≡ Err m
is_refused ts m (Refuses.left {b} {e} {ws} {es} {ns} is k d over f lt same) =
    text_agrees ts is k d
    ∙ ap (λ (r : Answer). counted_of (put_before (Open (place_of b) ∷ ns) r))
    (closes_at_line [] b e es f lt ∙ ap (put_before (Close (place_of e) ∷ [])) (left_of_all e es over f))
    ∙ ap Err (sym same)

-- ---- and tokens up to an end have blocks

abbrev Laid_or_refused : List Token → Type 0
Laid_or_refused ts = ((ms : List Laid) × LaysOut ts ms) ⊎ ((m : Mistake) × Refuses ts m)

some_whole : (ts : List Token) (b : Word) (ws : List Word) → words ts ≡ b ∷ ws → kind_of b ≢ kind.End →
    (x : BlockFound b ws) → Decided (kind_of x.0 ≡ kind.End) → Laid_or_refused ts
some_whole ts b ws is k x (inl over) =
    inl (
      counted (Open (place_of b) ∷ (x.2 ++ Close (place_of x.0) ∷ [])),
      LaysOut.whole is k x.3 over (counts (Open (place_of b) ∷ (x.2 ++ Close (place_of x.0) ∷ []))),
    )
some_whole ts b ws is k x (inr over) =
    let h = left_of b x.0 (first_brackets ts b ws is) over (ends_block x.3) in
    inr (bad_indent x.0, Refuses.left is k x.3 over h.0 h.1 refl)

some_by : (ts : List Token) (b : Word) (ws : List Word) → words ts ≡ b ∷ ws → WordsEnd (b ∷ ws) →
    Decided (kind_of b ≡ kind.End) → Laid_or_refused ts
some_by ts b ws is h (inl k) = inl (Open (place_of b) ∷ Close (place_of b) ∷ [], LaysOut.empty is k refl)
some_by ts b ws is h (inr k) =
    let x = block_exists b ws k h in some_whole ts b ws is k x (end_or (kind_of x.0))

some_of : (ts : List Token) (ws : List Word) → words ts ≡ ws → WordsEnd ws → Laid_or_refused ts
some_of ts [] is h = absurd (none_end h)
some_of ts (b ∷ ws) is h = some_by ts b ws is h (end_or (kind_of b))

pub some_answer : (ts : List Token) → HasEnd ts → Laid_or_refused ts
some_answer ts h = some_of ts (words ts) refl (words_end 0 0 h)

-- ---- the laws

pub laid_by : (ts : List Token) (ms : List Laid) → laid ts ≡ Ok ms → Laid_or_refused ts → LaysOut ts ms
laid_by ts ms e (inl x) =
    let same : x.0 ≡ ms = (let g : Ok x.0 ≡ Ok ms = sym (is_laid ts x.0 x.1) ∙ e in cc) in subst (LaysOut ts) same x.1
laid_by ts ms e (inr x) = absurd (let g : Err x.0 ≡ Ok ms = sym (is_refused ts x.0 x.1) ∙ e in cc)

refused_by : (ts : List Token) (m : Mistake) → laid ts ≡ Err m → Laid_or_refused ts → Refuses ts m
refused_by ts m e (inl x) = absurd (let g : Ok x.0 ≡ Err m = sym (is_laid ts x.0 x.1) ∙ e in cc)
refused_by ts m e (inr x) =
    let same : x.0 ≡ m = (let g : Err x.0 ≡ Err m = sym (is_refused ts x.0 x.1) ∙ e in cc) in
    subst (Refuses ts) same x.1

pub is_by_columns : LayoutIsByColumns
is_by_columns = record {
  marks = λ ts ms h. (λ e. laid_by ts ms e (some_answer ts h), is_laid ts ms);
  refusals = λ ts m h. (λ e. refused_by ts m e (some_answer ts h), is_refused ts m);
  texts = texts_end;
}

pub has_one_answer : LayoutHasOneAnswer
has_one_answer = record {
  some = some_answer;
  not_both = λ ts ms m d r. absurd (let g : Ok ms ≡ Err m = sym (is_laid ts ms d) ∙ is_refused ts m r in cc);
  one_layout = λ ts ms ns d h. (let g : Ok ms ≡ Ok ns = sym (is_laid ts ms d) ∙ is_laid ts ns h in cc);
  one_refusal = λ ts m n d h. (let g : Err m ≡ Err n = sym (is_refused ts m d) ∙ is_refused ts n h in cc);
}

-- ---- worked texts

pub worked : (ts : List Token) (ms : List Laid) → has_end ts ≡ true → laid ts ≡ Ok ms → LaysOut ts ms
worked ts ms h e = laid_by ts ms e (some_answer ts (end_found ts h))

pub worked_refusal : (ts : List Token) (m : Mistake) → has_end ts ≡ true → laid ts ≡ Err m → Refuses ts m
worked_refusal ts m h e = refused_by ts m e (some_answer ts (end_found ts h))
