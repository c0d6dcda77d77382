-- Each level's readers are exact.
use Rattle.std.proofs.Common.{◌≡◌, ℕ, zero, suc, Bool, true, false, ◌&&◌, ◌||◌, List, [], ◌∷◌, ◌++◌, Option, Some, None, refl, sym, ap, subst, ◌∙◌, inl, inr, ◌⊎◌, codes}
use Rattle.std.proofs.lemmas.List.{append-nil}
use Rattle.qtt_base.specs.declared.place.Span.{Span}
use Rattle.qtt_base.specs.declared.limits.Quantity.TheVariants as quantity
use Rattle.qtt_syntax.specs.Tree.{Tree, Statement}
use Rattle.qtt_syntax.specs.Tree.Tree.{name, hole}
use Rattle.qtt_syntax.specs.Tree.Annotation.{untyped}
use Rattle.qtt_syntax.specs.Tree.Binder.{plain}
use Rattle.qtt_usage.specs.declared.mult.Mult.{Mult}
use Rattle.qtt_usage.specs.declared.mult.Mult.TheVariants as mult
use Rattle.qtt_syntax.specs.declared.expr.Local.{Local}
use Rattle.qtt_phrase.specs.Phrase.{Token, ◌then◌, Making, ◌or◌, Many, Perhaps, Placed, opens, first}
use Rattle.qtt_phrase.specs.Reading.{Kind, Read, Reader, ◌>>=◌, begins, either_at, token_at, then_at, making_at, placed_at}
use Rattle.qtt_phrase.specs.Reading.Kind.{unexpected}
use Rattle.qtt_phrase.specs.Reading.Read.{got, bad, over}
use Rattle.qtt_phrase.proofs.Exact.{Begins, begins_token, begins_making, begins_chain, begins_placed, begins_wider, begins_or, opens_both}
use Rattle.qtt_phrase.proofs.Chained.{Stops, Judged, Exact, Sample, Started, Choice, nothing, or_exact}
use Rattle.qtt_phrase.proofs.Forms.{Reads, tok, make, seq, join, follow, alt, starting, ending, shut, place_of, maybe, counted, leads_perhaps, nothing_among, among_self, among_either, sample_then, sample_token, sample_none, sample_run, sample_making}
use Rattle.qtt_grammar.specs.declared.class.Class.{Class}
use Rattle.qtt_grammar.specs.declared.class.Class.TheVariants as class
use Rattle.qtt_grammar.specs.declared.class.Pass.{Pass}
use Rattle.qtt_grammar.specs.Classes.{is_open, is_close, is_do, is_let, is_in, is_the, is_zero, is_hole, is_wildcard, is_left_paren, is_right_paren, is_dot_paren, is_arrow, is_left_arrow, is_colon, is_equals, is_backslash, is_left_brace, is_right_brace, is_name, is_simple, is_constructor, is_bname, is_word, is_pattern_word, is_fat_arrow, starts_binder, starts_pattern}
use Rattle.qtt_grammar.specs.declared.lexeme.Lexeme.{Lexeme}
use Rattle.qtt_grammar.specs.Lexeme.{sign, word}
use Rattle.qtt_grammar.specs.declared.stop.Excess.{Excess}
use Rattle.qtt_grammar.specs.Limits.{excess_of}
use Rattle.qtt_grammar.specs.Grammar.{Says, of, place, word_of, typed_of, lambda_of, let_parts, do_of, bracket_of, the_of, named_app_of, other_app_of, arrow_of, pi_of, Typed, Bracket, OtherAtom, IsAtom, IsMark, The, NamedApp, OtherApp, IsAnnotation, Symbol, Opening, local_of, named_of, Locally, mult_of, pattern_word, Counted, Up_to, let_statement_of, after_in, bind_of, run_of, implicit_of, group_of, nested_of, bracketed_of, dot_of, bare_of, standing_of, may_end, Level, Hole, Lambda, Doing, Pi, Arrow, OtherExpr, IsExpr, LetStatement, Binding, IsStatement, Implicit, IsTyping, Inside, Bracketed, Dot, OtherPattern, IsPattern, Shape_of, Simple_level, levels}
use Rattle.qtt_grammar.specs.Readers.{symbol_at, opener_at, local_at, LevelReader, begins_binder, begins_bind, statement_starts, pattern_starts, up_to_at, pi_at, arrow_at, other_expr_at, expr_at, let_statement_at, binding_at, statement_at, implicit_at, typing_at, patterns_at, inside_at, bracketed_at, dot_at, other_pattern_at, pattern_at, level_at, simple_reader, levels_at}
use Rattle.qtt_grammar.proofs.Decide.{apart, among, every, implies}
use Rattle.qtt_grammar.proofs.Sets.{goes, starts_arrow, starts_other, starts_expr, starts_typing, starts_other_pattern, goes_or_in, halts, At}
use Rattle.qtt_grammar.proofs.Looks.{Looks, other_looks, expr_looks}
use Rattle.qtt_grammar.proofs.Levels.{Inner, Headed, symbol, symbol_some, opener, locally, locally_some, up_to, closed, closed_some, binder_reads, binder_some, lambda_reads, letting_reads, let_head_reads, doing_reads, arrow_reads, pi_reads, hole_reads, lines_some, block_sample}
use Rattle.qtt_grammar.proofs.Choices.{binder_choice, or_true, and_true, not_true, bad_by, bad_not_judged}

rest_is : (r : Read Lexeme Excess Tree) (o : Option Excess) (a b : Tree) (rest more : List Lexeme) →
    r ≡ got b more → Judged o a rest r → more ≡ rest
rest_is r None a b rest more e j = let h = sym e ∙ j in cc
rest_is r (Some f) a b rest more e (w, j) = absurd (let h = sym e ∙ j in cc)

bind_true : (c : Class) (x y : Lexeme) (w : List Lexeme) → x.class ≡ c → is_bname c ≡ true →
    of is_left_arrow y ≡ true → begins_bind (x ∷ y ∷ w) ≡ true
bind_true class.Wildcard x y w e i f = rw e refl
bind_true class.Small x y w e i f = rw (e, f) refl
bind_true class.Big x y w e i f = rw (e, f) refl
bind_true _ x y w e i f = absurd cc

bind_front : (y : Lexeme) (front : List Lexeme) (x : Lexeme) (r s : List Lexeme) →
    begins_bind (y ∷ (front ++ x ∷ r)) ≡ begins_bind (y ∷ (front ++ x ∷ s))
bind_front y [] x r s = refl
bind_front y (z ∷ front) x r s = refl

or_nothing : (b : Bool) → b || false ≡ b
or_nothing true = refl
or_nothing false = refl

bind_alone : (x : Lexeme) (r : List Lexeme) → of is_simple x ≡ false → begins_bind (x ∷ r) ≡ of is_wildcard x
bind_alone x [] e = refl
bind_alone x (y ∷ r) e = rw e (or_nothing (of is_wildcard x))

bind_case : (x : Lexeme) (r s : List Lexeme) (b : Bool) → of is_simple x ≡ b →
    (begins_bind (x ∷ r) ≡ begins_bind (x ∷ s)) ⊎ (of is_simple x ≡ true)
bind_case x r s true e = inr e
bind_case x r s false e = inl (bind_alone x r e ∙ sym (bind_alone x s e))

-- a name alone leaves it open whether a statement binds
bind_first : (x : Lexeme) (r s : List Lexeme) → (begins_bind (x ∷ r) ≡ begins_bind (x ∷ s)) ⊎ (of is_simple x ≡ true)
bind_first x r s = bind_case x r s (of is_simple x) refl

hole_starts : (may tail : Bool) (c : Class) → tail ≡ true → is_hole c ≡ true → statement_starts may tail c ≡ true
hole_starts may true class.Hole e i = refl
hole_starts may true _ e i = absurd cc
hole_starts may false c e i = absurd cc

-- behind "{" another level may open, since its own did
pub braces_reads : {p : Span} {A B : Type 0} (may : Bool) (L : Level) (R : LevelReader) (inner : Inner p L R)
    (f : Span × (Mult × (Local × (Span × (Tree × (Span × (Span × A)))))) → B) {P : Says A}
    {r : Reader Lexeme Excess A} → Exact (At p) P (of goes) r → Sample (At p) P →
    Reads (At p) (Making f
    (Opening may is_left_brace then Token (of is_zero) (λ x. mult_of x.class) then Locally is_simple then Symbol
    is_colon then L.expr false then Symbol is_right_brace then Opening may is_arrow then P)) (of is_left_brace)
    (of goes) (making_at f
    (then_at (opener_at may is_left_brace)
    (then_at (token_at (λ _. None) (of is_zero) (λ x. mult_of x.class))
    (then_at (local_at is_simple)
    (then_at (symbol_at is_colon)
    (then_at (R.expr false) (then_at (symbol_at is_right_brace) (then_at (opener_at may is_arrow) r))))))))
braces_reads {p} true L R inner f ex some =
    let to = seq (opener true is_arrow) ex some in
    let to_some = sample_then (sample_token (opens true (of is_arrow)) place (sign class.Arrow p) refl) some in
    let close = seq (symbol is_right_brace) to.exact to_some in
    let close_some = sample_then (symbol_some is_right_brace class.RightBrace refl) to_some in
    let type = join (inner.expr false) close close_some (apart goes is_right_brace refl) in
    let type_some = sample_then (inner.expr_some false) close_some in
    let colon = seq (symbol is_colon) type.exact type_some in
    let colon_some = sample_then (symbol_some is_colon class.Colon refl) type_some in
    let named = seq (locally is_simple) colon.exact colon_some in
    let named_some = sample_then (locally_some is_simple class.Small refl) colon_some in
    let zero = seq (tok (of is_zero) (λ x. mult_of x.class)) named.exact named_some in
    let zero_some = sample_then (sample_token (of is_zero) (λ x. mult_of x.class) (sign class.Zero p) refl)
    named_some in
    make f (seq (opener true is_left_brace) zero.exact zero_some)
braces_reads {p} false L R inner f ex some = make f (shut (At p) (of is_left_brace) place _ _ (of goes))

implicit_reads : {p : Span} (pass : Pass) (may : Bool) (L : Level) (R : LevelReader) (inner : Inner p L R) →
    Reads (At p) (Implicit pass may L) (of is_left_brace) (of goes) (implicit_at pass may R)
unfolding implicit_at
implicit_reads pass may L R inner = braces_reads may L R inner implicit_of inner.typing.exact inner.typing_some

opens_here : {T : Type 0} (may : Bool) (is : T → Bool) (x : T) → may ≡ true → is x ≡ true → opens may is x ≡ true
opens_here true is x h e = e
opens_here false is x h e = absurd cc

by_may : (may : Bool) (f : Bool → Bool) → f true ≡ true → may ≡ true → f may ≡ true
by_may true f h e = h
by_may false f h e = absurd cc

by_both : (may : Bool) (f : Bool → Bool) → f true ≡ true → f false ≡ true → f may ≡ true
by_both true f h k = h
by_both false f h k = k

module _ {p : Span} (pass : Pass) (may : Bool) (L : Level) (R : LevelReader) (inner : Inner p L R)
    (looks : may ≡ true → Looks (R.expr false)) where
  last_reads : Reads (At p) (Pi pass may L or Arrow pass may L) (of starts_arrow) (of goes)
      (either_at begins_binder (pi_at pass may R) (arrow_at pass may R))
  last_reads =
      let pi = pi_reads pass may L R inner in
      let arrow = arrow_reads pass may L R inner in
      record {
        exact = or_exact (At p) begins_binder (Pi pass may L) (pi_at pass may R) (Arrow pass may L)
            (arrow_at pass may R) (of goes) (of goes) (of goes) pi.exact arrow.exact (λ ls e. (e, e))
            (binder_choice pass L R inner may looks);
        begins = begins_or (Pi pass may L) (Arrow pass may L) (of starts_arrow)
            (begins_wider (Pi pass may L) (of is_left_paren) (of starts_arrow)
            (among is_left_paren starts_arrow refl) pi.begins) arrow.begins;
      }

  abbrev do_or_arrow : Class → Bool
  do_or_arrow class.Do = true
  do_or_arrow c = starts_arrow c

  abbrev function_or_do : Class → Bool
  function_or_do class.Backslash = true
  function_or_do c = do_or_arrow c

  other_reads : (tail : Bool) →
      Reads (At p) (OtherExpr pass may L tail) (of starts_other) (of goes) (other_expr_at pass may R tail)
  unfolding other_expr_at
  other_reads tail =
      let third = starting (of do_or_arrow)
      (among_either (of is_do) (of starts_arrow) (of do_or_arrow) (among is_do do_or_arrow refl)
      (among starts_arrow do_or_arrow refl))
      (alt (of goes) (doing_reads pass may L R inner tail) last_reads (apart is_do starts_arrow refl)
      (nothing_among (of goes)) (among_self (of goes))) in
      let second = starting (of function_or_do)
      (among_either (of is_backslash) (of do_or_arrow) (of function_or_do)
      (among is_backslash function_or_do refl) (among do_or_arrow function_or_do refl))
      (alt (of goes) (lambda_reads pass may L R inner tail) third (apart is_backslash do_or_arrow refl)
      (among_self (of goes)) (among_self (of goes))) in
      starting (of starts_other)
      (among_either (of is_hole) (of function_or_do) (of starts_other) (among is_hole starts_other refl)
      (among function_or_do starts_other refl))
      (alt (of goes) (hole_reads pass may L R inner tail) second (apart is_hole function_or_do refl)
      (nothing_among (of goes)) (among_self (of goes)))

  expr_reads : (tail : Bool) →
      Reads (At p) (IsExpr pass may L tail) (of starts_expr) (of goes) (expr_at pass may R tail)
  unfolding expr_at
  expr_reads tail = starting (of starts_expr)
      (among_either (of is_let) (of starts_other) (of starts_expr) (among is_let starts_expr refl)
      (among starts_other starts_expr refl))
      (alt (of goes) (letting_reads pass may L R inner tail) (other_reads tail) (apart is_let starts_other refl)
      (among_self (of goes)) (among_self (of goes)))

  -- a name alone
  name_means : (tail : Bool) →
      OtherExpr pass may L tail (word class.Small p (codes "a") ∷ [])
      (name (named_of (word class.Small p (codes "a")))) None
  name_means tail =
      let x = word class.Small p (codes "a") in
      let n = named_of x in
      inr (inr (inr (inr (
        ((p, name n), None),
        (
          x ∷ [],
          [],
          None,
          None,
          refl,
          (
            x,
            [],
            refl,
            refl,
            inr
                (inl (
                  (n, ([], [])),
                  (
                    x ∷ [],
                    [],
                    None,
                    None,
                    refl,
                    (x, refl, refl, refl, refl),
                    ([], [], None, None, refl, (refl, refl), (refl, refl), refl),
                    refl,
                  ),
                  refl,
                )),
          ),
          inl (refl, refl, refl),
          refl,
        ),
        refl,
      ))))

  expr_some : (tail : Bool) → Sample (At p) (IsExpr pass may L tail)
  expr_some tail = let x = word class.Small p (codes "a") in
      record {
        tokens = x ∷ [];
        value = name (named_of x);
        fault = None;
        means = inr (name_means tail);
        mild = tt;
      }

  -- ---- statements

  let_statement_reads : (tail : Bool) →
      Reads (At p) (LetStatement pass may L tail) (of is_let) (of goes_or_in) (let_statement_at pass may R tail)
  unfolding let_statement_at
  let_statement_reads tail =
      let behind = make after_in (seq (symbol is_in) (inner.expr tail).exact (inner.expr_some tail)) in
      make let_statement_of (follow (let_head_reads pass may L R inner)
      (maybe None (of goes_or_in) behind (among is_in goes_or_in refl) (among goes goes_or_in refl))
      (sample_none None (Making after_in (Symbol is_in then L.expr tail)))
      (leads_perhaps None behind.begins (apart goes is_in refl) (among goes goes_or_in refl)))

  binding_reads : Reads (At p) (Binding pass may L) (of is_bname) (of goes) (binding_at pass may R)
  unfolding binding_at
  binding_reads = make bind_of
      (seq (locally is_bname) (seq (symbol is_left_arrow) (expr_reads false).exact (expr_some false)).exact
      (sample_then (symbol_some is_left_arrow class.LeftArrow refl) (expr_some false)))

  abbrev RunLine : Bool → Says Statement
  RunLine tail = Making run_of (Placed place (OtherExpr pass may L tail))

  run_reads : (tail : Bool) →
      Reads (At p) (RunLine tail) (of starts_other) (of goes)
      (making_at run_of (placed_at place (other_expr_at pass may R tail)))
  run_reads tail = make run_of (place_of place (other_reads tail))

  -- ---- a statement that binds

  abbrev bind_or_run : Bool → Reader Lexeme Excess Statement
  bind_or_run tail = either_at begins_bind (binding_at pass may R)
      (making_at run_of (placed_at place (other_expr_at pass may R tail)))

  run_looks : (tail : Bool) → Looks (other_expr_at pass may R tail)
  run_looks tail = other_looks pass may R tail

  wild_not : (tail : Bool) (y : Lexeme) (w : List Lexeme) (t : Tree) (o : Option Excess) (rest : List Lexeme) →
      of is_wildcard y ≡ true → Judged o t rest (other_expr_at pass may R tail (y ∷ w)) → ⊥
  wild_not tail y w t o rest i j =
      bad_not_judged (other_expr_at pass may R tail (y ∷ w)) o t rest
      (bad_by (other_expr_at pass may R tail (y ∷ w)) unexpected (y ∷ w) ((run_looks tail).wild y w i)) j

  binding_name : (x : Lexeme) → of is_simple x ≡ true → binding_at pass may R (x ∷ []) ≡ bad unexpected []
  unfolding binding_at
  binding_name x i = rw (among is_simple is_bname refl x i) refl

  -- an expression that begins with a name and "<-" ends before it
  bind_not : (tail : Bool) (ls : List Lexeme) (t : Tree) (o : Option Excess) (rest : List Lexeme) →
      begins_bind ls ≡ true → Judged o t rest (other_expr_at pass may R tail ls) → Stops (of goes) rest → ⊥
  bind_not tail [] t o rest b j h = cc
  bind_not tail (y ∷ []) t o rest b j h = wild_not tail y [] t o rest b j
  bind_not tail (y ∷ z ∷ w) t o rest b j h =
      elim (or_true (of is_wildcard y) (of is_simple y && of is_left_arrow z) b) [
        | inl i ↦ wild_not tail y (z ∷ w) t o rest i j
        | inr i ↦
            let k = and_true (of is_simple y) (of is_left_arrow z) i in
            let e = rest_is (other_expr_at pass may R tail (y ∷ z ∷ w)) o t (name (named_of y)) rest (z ∷ w)
            ((run_looks tail).name_then y z w k.0 (among is_left_arrow halts refl z k.1)) j in
            let g = among is_left_arrow goes refl z k.1 in
            let stop : of goes z ≡ false = ap (begins (of goes)) e ∙ h in
            cc
      ]

  run_not_bind : (tail : Bool) (us rest : List Lexeme) (v : Statement) (o : Option Excess) → RunLine tail us v o →
      Stops (of goes) rest → begins_bind (us ++ rest) ≡ false
  run_not_bind tail us rest v o (c, (x, r, e, f, m), made) h =
      not_true (begins_bind (us ++ rest))
      (λ b. bind_not tail (us ++ rest) c.1 o rest b ((other_reads tail).exact.complete us c.1 o rest m h) h)

  binding_left : (us rest : List Lexeme) (v : Statement) (o : Option Excess) → Binding pass may L us v o →
      begins_bind (us ++ rest) ≡ true
  binding_left us rest v o (
    c,
    (ws, vs, j, k, e, (x, ex, sx, vx, ox), (ws2, vs2, j2, k2, e2, (y, ey, sy, vy, oy), tree, f2), f),
    made,
  )
      = rw (e, ex, e2, ey) (bind_true x.class x y (vs2 ++ rest) refl sx sy)

  binding_stuck : (front : List Lexeme) (x : Lexeme) (r s : List Lexeme) (k : Kind) →
      ((z : List Lexeme) → binding_at pass may R (front ++ x ∷ z) ≡ bad k (x ∷ z)) →
      begins_bind (front ++ x ∷ r) ≡ true → begins_bind (front ++ x ∷ s) ≡ true
  binding_stuck [] x r s k h b =
      elim (bind_first x r s)
      [ inl same ↦ sym same ∙ b | inr i ↦ absurd (let u = h [] in let v = binding_name x i in cc) ]
  binding_stuck (y ∷ front) x r s k h b = sym (bind_front y front x r s) ∙ b

  binding_passed : (front : List Lexeme) (x : Lexeme) (r s : List Lexeme) (f : Excess) →
      ((z : List Lexeme) → binding_at pass may R (front ++ x ∷ z) ≡ over f z) →
      begins_bind (front ++ x ∷ r) ≡ true → begins_bind (front ++ x ∷ s) ≡ true
  binding_passed [] x r s f h b =
      elim (bind_first x r s)
      [ inl same ↦ sym same ∙ b | inr i ↦ absurd (let u = h [] in let v = binding_name x i in cc) ]
  binding_passed (y ∷ front) x r s f h b = sym (bind_front y front x r s) ∙ b

  run_name : (tail : Bool) (x : Lexeme) → of is_simple x ≡ true →
      making_at run_of (placed_at place (other_expr_at pass may R tail)) (x ∷ []) ≡ got
      (run_of (x.place, name (named_of x))) []
  run_name tail x i = ap (λ (v : Read Lexeme Excess Tree). (v >>= λ a r. got (x.place, a) r) >>= λ a r. got
      (run_of a) r) ((run_looks tail).name_last x i)

  run_stuck : (tail : Bool) (front : List Lexeme) (x : Lexeme) (r s : List Lexeme) (k : Kind) →
      ((z : List Lexeme) → making_at run_of (placed_at place (other_expr_at pass may R tail))
      (front ++ x ∷ z) ≡ bad k (x ∷ z)) → begins_bind (front ++ x ∷ r) ≡ false →
      begins_bind (front ++ x ∷ s) ≡ false
  run_stuck tail [] x r s k h b =
      elim (bind_first x r s)
      [ inl same ↦ sym same ∙ b | inr i ↦ absurd (let u = h [] in let v = run_name tail x i in cc) ]
  run_stuck tail (y ∷ front) x r s k h b = sym (bind_front y front x r s) ∙ b

  run_passed : (tail : Bool) (front : List Lexeme) (x : Lexeme) (r s : List Lexeme) (f : Excess) →
      ((z : List Lexeme) → making_at run_of (placed_at place (other_expr_at pass may R tail))
      (front ++ x ∷ z) ≡ over f z) → begins_bind (front ++ x ∷ r) ≡ false → begins_bind (front ++ x ∷ s) ≡ false
  run_passed tail [] x r s f h b =
      elim (bind_first x r s)
      [ inl same ↦ sym same ∙ b | inr i ↦ absurd (let u = h [] in let v = run_name tail x i in cc) ]
  run_passed tail (y ∷ front) x r s f h b = sym (bind_front y front x r s) ∙ b

  run_got : (tail : Bool) (front : List Lexeme) (x : Lexeme) (r s : List Lexeme) (v : Statement) →
      RunLine tail front v None → begins_bind (front ++ x ∷ r) ≡ false → begins_bind (front ++ x ∷ s) ≡ false
  run_got tail [] x r s v m b = absurd (let h = (run_reads tail).begins.at [] [] v None m in cc)
  run_got tail (y ∷ front) x r s v m b = sym (bind_front y front x r s) ∙ b

  bind_choice : (tail : Bool) →
      Choice begins_bind (Binding pass may L) (binding_at pass may R) (RunLine tail)
      (making_at run_of (placed_at place (other_expr_at pass may R tail))) (of goes)
  bind_choice tail = record {
    left = binding_left;
    right = λ us rest v o m e. run_not_bind tail us rest v o m e;
    left_bad = λ front x r s k h b. let f = binding_stuck front x r s k h b in rw f (h s);
    left_over = λ front x r s k h b. let f = binding_passed front x r s k h b in rw f (h s);
    right_got = λ front x r s v m b. run_got tail front x r s v m b;
    right_bad = λ front x r s k h b. let f = run_stuck tail front x r s k h b in rw f (h s);
    right_over = λ front x r s k h b. let f = run_passed tail front x r s k h b in rw f (h s);
  }

  abbrev starts_line : Class → Bool
  starts_line class.Wildcard = true
  starts_line c = starts_other c

  abbrev starts_statement : Class → Bool
  starts_statement class.Let = true
  starts_statement c = starts_line c

  line_reads : (tail : Bool) →
      Reads (At p) (Binding pass may L or RunLine tail) (of starts_line) (of goes) (bind_or_run tail)
  line_reads tail = record {
    exact = or_exact (At p) begins_bind (Binding pass may L) (binding_at pass may R) (RunLine tail)
        (making_at run_of (placed_at place (other_expr_at pass may R tail))) (of goes) (of goes)
        (of goes) binding_reads.exact (run_reads tail).exact (λ ls e. (e, e)) (bind_choice tail);
    begins = begins_or (Binding pass may L) (RunLine tail) (of starts_line)
        (begins_wider (Binding pass may L) (of is_bname) (of starts_line)
        (among is_bname starts_line refl) binding_reads.begins)
        (begins_wider (RunLine tail) (of starts_other) (of starts_line) (among starts_other starts_line refl)
        (run_reads tail).begins);
  }

  statement_reads : (tail : Bool) →
      Reads (At p) (IsStatement pass may L tail) (of starts_statement) (of goes_or_in)
      (statement_at pass may R tail)
  unfolding statement_at
  statement_reads tail = starting (of starts_statement)
      (among_either (of is_let) (of starts_line) (of starts_statement) (among is_let starts_statement refl)
      (among starts_line starts_statement refl))
      (alt (of goes_or_in) (let_statement_reads tail) (line_reads tail) (apart is_let starts_line refl)
      (among_self (of goes_or_in)) (among goes goes_or_in refl))

  -- ---- the tokens that begin a statement, and no others

  begins_opener : (is t : Class → Bool) → (may ≡ true → every (λ c. implies (is c) (t c)) ≡ true) →
      Begins (Opening may is) (of t)
  begins_opener is t h = begins_wider (Opening may is) (opens may (of is)) (of t)
      (λ x e. let b = opens_both may (of is x) e in among is t (h b.0) x b.1)
      (begins_token (λ _. None) (opens may (of is)) place)

  begins_typed : (t : Class → Bool) → (may ≡ true → every (λ c. implies (is_left_paren c) (t c)) ≡ true) →
      Begins (Typed pass may L) (of t)
  begins_typed t h = begins_making typed_of _ (of t) (begins_chain _ _ (of t) (begins_opener is_left_paren t h))

  begins_bracket : (t : Class → Bool) → (may ≡ true → every (λ c. implies (is_left_paren c) (t c)) ≡ true) →
      Begins (Bracket pass may L) (of t)
  begins_bracket t h = begins_making bracket_of _ (of t) (begins_chain _ _ (of t) (begins_opener is_left_paren t h))

  begins_atom : (t : Class → Bool) → (may ≡ true → every (λ c. implies (is_left_paren c) (t c)) ≡ true) →
      every (λ c. implies (is_word c) (t c)) ≡ true → Begins (OtherAtom pass may L) (of t)
  begins_atom t h w = begins_or _ (Bracket pass may L) (of t)
      (begins_wider _ (of is_word) (of t) (among is_word t w)
      (begins_token (excess_of pass) (of is_word) (λ x. word_of x.class x))) (begins_bracket t h)

  begins_run : (tail : Bool) → Begins (OtherExpr pass may L tail) (of (statement_starts may tail))
  begins_run tail =
      let t = statement_starts may tail in
      begins_or (Hole pass may L tail) _ (of t)
      (begins_wider (Hole pass may L tail) (opens tail (of is_hole)) (of t)
      (λ x e. let b = opens_both tail (of is_hole x) e in hole_starts may tail x.class b.0 b.1)
      (begins_token (λ _. None) (opens tail (of is_hole)) (λ x. hole x.name x.place)))
      (begins_or (Lambda pass may L tail) _ (of t)
      (begins_making lambda_of _ (of t)
      (begins_chain _ _ (of t)
      (begins_opener is_backslash t
      (by_may may (λ m. every (λ c. implies (is_backslash c) (statement_starts m tail c))) (refl)))))
      (begins_or (Doing pass may L tail) _ (of t)
      (begins_making do_of _ (of t)
      (begins_chain _ _ (of t)
      (begins_opener is_do t
      (by_may may (λ m. every (λ c. implies (is_do c) (statement_starts m tail c))) (refl)))))
      (begins_or (Pi pass may L) (Arrow pass may L) (of t)
      (begins_making pi_of _ (of t)
      (begins_chain _ _ (of t)
      (begins_typed t (by_may may (λ m. every (λ c. implies (is_left_paren c) (statement_starts m tail c)))
      (refl)))))
      (begins_making arrow_of _ (of t) (begins_chain _ _ (of t) (begins_placed place _ (of t)
      (begins_or (The pass may L) _ (of t)
      (begins_wider _ (of is_the) (of t)
      (among is_the t (by_both may (λ m. every (λ c. implies (is_the c) (statement_starts m tail c))) refl
      refl)) (begins_making the_of _ (of is_the)
      (begins_chain _ _ (of is_the) (begins_token (λ _. None) (of is_the) place))))
      (begins_or (NamedApp pass may L) (OtherApp pass may L) (of t)
      (begins_making named_app_of _ (of t)
      (begins_chain _ _ (of t)
      (begins_wider _ (of is_name) (of t)
      (among is_name t (by_both may (λ m. every (λ c. implies (is_name c) (statement_starts m tail c))) refl
      refl)) (begins_token (λ _. None) (of is_name) named_of))))
      (begins_making other_app_of _ (of t)
      (begins_placed place _ (of t)
      (begins_chain _ _ (of t)
      (begins_atom t (by_may may (λ m. every (λ c. implies (is_left_paren c) (statement_starts m tail c)))
      (refl)) (by_both may (λ m. every (λ c. implies (is_word c) (statement_starts m tail c))) refl
      refl)))))))))))))

  begins_statement : (tail : Bool) → Begins (IsStatement pass may L tail) (of (statement_starts may tail))
  begins_statement tail =
      let t = statement_starts may tail in
      begins_or (LetStatement pass may L tail) _ (of t)
      (begins_making let_statement_of _ (of t)
      (begins_chain _ _ (of t)
      (begins_making let_parts _ (of t)
      (begins_chain _ _ (of t)
      (begins_opener is_let t
      (by_may may (λ m. every (λ c. implies (is_let c) (statement_starts m tail c))) refl))))))
      (begins_or (Binding pass may L) (RunLine tail) (of t)
      (begins_wider (Binding pass may L) (of is_bname) (of t)
      (among is_bname t (by_both may (λ m. every (λ c. implies (is_bname c) (statement_starts m tail c))) refl
      refl)) binding_reads.begins)
      (begins_making run_of _ (of t) (begins_placed place _ (of t) (begins_run tail))))

  -- ---- each of them begins one

  starts_run : (tail : Bool) (x : Lexeme) (r : List Lexeme) (t : Tree) (o : Option Excess) →
      OtherExpr pass may L tail (x ∷ r) t o → Started (IsStatement pass may L tail) (x ∷ [])
  starts_run tail x r t o m =
      record {
        more = r;
        value = run_of (x.place, t);
        fault = o;
        means = inr (inr ((x.place, t), (x, r, refl, refl, m), refl));
      }

  starts_by : (tail : Bool) (x : Lexeme) (r : List Lexeme) (s : Sample (At p) (OtherExpr pass may L tail)) →
      s.tokens ≡ x ∷ r → Started (IsStatement pass may L tail) (x ∷ [])
  starts_by tail x r s e = starts_run tail x r s.value s.fault
      (subst (λ (z : List Lexeme). OtherExpr pass may L tail z s.value s.fault) e s.means)

  word_run : (tail : Bool) (x : Lexeme) → of is_word x ≡ true → Started (IsStatement pass may L tail) (x ∷ [])
  word_run tail x e =
      let t = word_of x.class x in
      starts_run tail x [] t (first (first (excess_of pass x) None) None)
      (inr (inr (inr (inr (
        ((x.place, t), None),
        (
          x ∷ [],
          [],
          first (excess_of pass x) None,
          None,
          refl,
          (
            x,
            [],
            refl,
            refl,
            inr
                (inr (
                  (x.place, (t, [])),
                  (
                    x,
                    [],
                    refl,
                    refl,
                    (
                      x ∷ [],
                      [],
                      excess_of pass x,
                      None,
                      refl,
                      inl (x, refl, e, refl, refl),
                      (refl, refl),
                      refl,
                    ),
                  ),
                  refl,
                )),
          ),
          inl (refl, refl, refl),
          refl,
        ),
        refl,
      )))))

  name_run : (tail : Bool) (x : Lexeme) → of is_name x ≡ true → Started (IsStatement pass may L tail) (x ∷ [])
  name_run tail x e =
      let n = named_of x in
      starts_run tail x [] (name n) None
      (inr (inr (inr (inr (
        ((x.place, name n), None),
        (
          x ∷ [],
          [],
          None,
          None,
          refl,
          (
            x,
            [],
            refl,
            refl,
            inr
                (inl (
                  (n, ([], [])),
                  (
                    x ∷ [],
                    [],
                    None,
                    None,
                    refl,
                    (x, refl, e, refl, refl),
                    ([], [], None, None, refl, (refl, refl), (refl, refl), refl),
                    refl,
                  ),
                  refl,
                )),
          ),
          inl (refl, refl, refl),
          refl,
        ),
        refl,
      )))))

  hole_run : (tail : Bool) (x : Lexeme) → opens tail (of is_hole) x ≡ true →
      Started (IsStatement pass may L tail) (x ∷ [])
  hole_run tail x e = starts_run tail x [] (hole x.name x.place) None (inl (x, refl, e, refl, refl))

  wild_run : (tail : Bool) (x : Lexeme) → of is_bname x ≡ true → Started (IsStatement pass may L tail) (x ∷ [])
  wild_run tail x e =
      let s = expr_some false in
      record {
        more = sign class.LeftArrow p ∷ s.tokens;
        value = bind_of (local_of x, (p, s.value));
        fault = s.fault;
        means =
            inr (inl (
              (local_of x, (p, s.value)),
              (
                x ∷ [],
                sign class.LeftArrow p ∷ s.tokens,
                None,
                s.fault,
                refl,
                (x, refl, e, refl, refl),
                (
                  sign class.LeftArrow p ∷ [],
                  s.tokens,
                  None,
                  s.fault,
                  refl,
                  (sign class.LeftArrow p, refl, refl, refl, refl),
                  s.means,
                  refl,
                ),
                refl,
              ),
              refl,
            ));
      }

  abbrev a_name : Lexeme
  a_name = word class.Small p (codes "a")

  atom_means : IsAtom pass may L (a_name ∷ []) (name (named_of a_name)) None
  atom_means = inl (named_of a_name, (a_name, refl, refl, refl, refl), refl)

  the_run : (tail : Bool) (x : Lexeme) → of is_the x ≡ true → Started (IsStatement pass may L tail) (x ∷ [])
  the_run tail x e =
      let n = name (named_of a_name) in
      let t = the_of (x.place, (n, n)) in
      starts_run tail x (a_name ∷ a_name ∷ []) t None
      (inr (inr (inr (inr (
        ((x.place, t), None),
        (
          x ∷ a_name ∷ a_name ∷ [],
          [],
          None,
          None,
          refl,
          (
            x,
            a_name ∷ a_name ∷ [],
            refl,
            refl,
            inl (
              (x.place, (n, n)),
              (
                x ∷ [],
                a_name ∷ a_name ∷ [],
                None,
                None,
                refl,
                (x, refl, e, refl, refl),
                (a_name ∷ [], a_name ∷ [], None, None, refl, atom_means, atom_means, refl),
                refl,
              ),
              refl,
            ),
          ),
          inl (refl, refl, refl),
          refl,
        ),
        refl,
      )))))

  lambda_run : (tail : Bool) (x : Lexeme) → opens may (of is_backslash) x ≡ true →
      Started (IsStatement pass may L tail) (x ∷ [])
  unfolding sample_making sample_then sample_token
  lambda_run tail x e =
      let b = inner.binder_some in
      let m : Sample (At p) (Many L.binder) =
      record { tokens = []; value = []; fault = None; means = (refl, refl); mild = tt } in
      let s = sample_making lambda_of
      (sample_then (sample_token (opens may (of is_backslash)) place x e)
      (sample_then (sample_then b m)
      (sample_then (sample_token (of is_fat_arrow) place (sign class.FatArrow p) refl)
      (inner.expr_some tail)))) in
      starts_run tail x ((b.tokens ++ []) ++ sign class.FatArrow p ∷ (inner.expr_some tail).tokens) s.value
      s.fault (inr (inl s.means))

  -- a form that begins with the token
  record Form (x : Lexeme) {A : Type 0} (P : Says A) : Type 0 where
    sample : Sample (At p) P
    rest : List Lexeme
    tokens : sample.tokens ≡ x ∷ rest

  bracket_sample : (x : Lexeme) → opens may (of is_left_paren) x ≡ true → Form x (Bracket pass may L)
  unfolding sample_making sample_then sample_token
  bracket_sample x e = record {
    sample = sample_making bracket_of
        (sample_then (sample_token (opens may (of is_left_paren)) place x e)
        (sample_then (inner.expr_some false)
        (sample_token (of is_right_paren) place (sign class.RightParen p) refl)));
    rest = (inner.expr_some false).tokens ++ sign class.RightParen p ∷ [];
    tokens = refl;
  }

  do_sample : (tail : Bool) (x : Lexeme) → opens may (of is_do) x ≡ true → Form x (Doing pass may L tail)
  unfolding sample_making sample_then sample_token
  do_sample tail x e =
      let b = block_sample (inner.statement_some tail).sample
      (λ s. lines_some pass may L R inner tail (1, standing_of s)) in
      record {
        sample = sample_making do_of
            (sample_then (sample_token (opens may (of is_do)) place x e)
            (sample_then (sample_token (of is_open) place (sign class.Open p) refl)
            (sample_then b (sample_token (of is_close) place (sign class.Close p) refl))));
        rest = sign class.Open p ∷ (b.tokens ++ sign class.Close p ∷ []);
        tokens = refl;
      }

  do_run : (tail : Bool) (x : Lexeme) → opens may (of is_do) x ≡ true → Started (IsStatement pass may L tail) (x ∷ [])
  do_run tail x e =
      let s = do_sample tail x e in
      starts_run tail x s.rest s.sample.value s.sample.fault
      (inr
      (inr (inl (subst (λ (z : List Lexeme). Doing pass may L tail z s.sample.value s.sample.fault) s.tokens
      s.sample.means))))

  let_run : (tail : Bool) (x : Lexeme) → opens may (of is_let) x ≡ true → Started (IsStatement pass may L tail) (x ∷ [])
  unfolding sample_making sample_then sample_token
  let_run tail x e =
      let k : Sample (At p) IsMark =
      record { tokens = []; value = mult.Many; fault = None; means = inl (refl, refl, refl); mild = tt } in
      let a : Sample (At p) (IsAnnotation pass may L) =
      record { tokens = []; value = untyped; fault = None; means = inl (refl, refl, refl); mild = tt } in
      let h = sample_making let_parts
      (sample_then (sample_token (opens may (of is_let)) place x e)
      (sample_then k (sample_then (sample_token (of is_bname) local_of a_name refl)
      (sample_then a (sample_then (sample_token (of is_equals) place (sign class.Equals p) refl)
      (inner.expr_some false)))))) in
      let n : Sample (At p) (Perhaps None (Making after_in (Symbol is_in then L.expr tail))) =
      record { tokens = []; value = None; fault = None; means = inl (refl, refl, refl); mild = tt } in
      let s = sample_making let_statement_of (sample_then h n) in
      record {
        more = (a_name ∷ sign class.Equals p ∷ (inner.expr_some false).tokens) ++ [];
        value = s.value;
        fault = s.fault;
        means = inl s.means;
      }

  paren_run : (tail : Bool) (x : Lexeme) → opens may (of is_left_paren) x ≡ true →
      Started (IsStatement pass may L tail) (x ∷ [])
  paren_run tail x e =
      let b = bracket_sample x e in
      let t = b.sample.value in
      let o = b.sample.fault in
      starts_run tail x b.rest t (first (first o None) None)
      (inr (inr (inr (inr (
        ((x.place, t), None),
        (
          x ∷ b.rest,
          [],
          first o None,
          None,
          sym (append-nil (x ∷ b.rest)),
          (
            x,
            b.rest,
            refl,
            refl,
            inr (inr (
              (x.place, (t, [])),
              (
                x,
                b.rest,
                refl,
                refl,
                (
                  x ∷ b.rest,
                  [],
                  o,
                  None,
                  sym (append-nil (x ∷ b.rest)),
                  inr (subst (λ (z : List Lexeme). Bracket pass may L z t o) b.tokens b.sample.means),
                  (refl, refl),
                  refl,
                ),
              ),
              refl,
            )),
          ),
          inl (refl, refl, refl),
          refl,
        ),
        refl,
      )))))

  started_at : (tail : Bool) (x : Lexeme) (c : Class) → x.class ≡ c → statement_starts may tail c ≡ true →
      Started (IsStatement pass may L tail) (x ∷ [])
  started_at tail x class.Backslash e h = lambda_run tail x (opens_here may (of is_backslash) x h (ap is_backslash e))
  started_at tail x class.Let e h = let_run tail x (opens_here may (of is_let) x h (ap is_let e))
  started_at tail x class.Do e h = do_run tail x (opens_here may (of is_do) x h (ap is_do e))
  started_at tail x class.LeftParen e h = paren_run tail x (opens_here may (of is_left_paren) x h (ap is_left_paren e))
  started_at tail x class.Hole e h = hole_run tail x (opens_here tail (of is_hole) x h (ap is_hole e))
  started_at tail x class.The e h = the_run tail x (ap is_the e)
  started_at tail x class.Wildcard e h = wild_run tail x (ap is_bname e)
  started_at tail x class.Small e h = name_run tail x (ap is_name e)
  started_at tail x class.Big e h = name_run tail x (ap is_name e)
  started_at tail x class.SmallPath e h = name_run tail x (ap is_name e)
  started_at tail x class.BigPath e h = name_run tail x (ap is_name e)
  started_at tail x class.Zero e h = word_run tail x (ap is_word e)
  started_at tail x class.One e h = word_run tail x (ap is_word e)
  started_at tail x class.Natural e h = word_run tail x (ap is_word e)
  started_at tail x class.Negative e h = word_run tail x (ap is_word e)
  started_at tail x class.Text e h = word_run tail x (ap is_word e)
  started_at tail x class.Universe e h = word_run tail x (ap is_word e)
  started_at tail x _ e h = absurd cc

  statement_some : (tail : Bool) → Headed p (IsStatement pass may L tail)
  statement_some tail = record {
    sample = record {
      tokens = a_name ∷ [];
      value = run_of (p, name (named_of a_name));
      fault = None;
      means = inr (inr ((p, name (named_of a_name)), (a_name, [], refl, refl, name_means tail), refl));
      mild =
          tt;
    };
    head = a_name;
    rest = [];
    tokens = refl;
    place = refl;
  }

  statement_ends : (tail : Bool) (n : ℕ) → may_end (n, standing_of (statement_some tail).sample.value) ≡ true
  unfolding statement_some
  statement_ends tail n = refl

  -- ---- patterns

  patterns_reads : (n : ℕ) →
      Reads (At p) (Up_to pass quantity.Parts n L.pattern) (of starts_pattern) nothing
      (up_to_at pass quantity.Parts R.starts_pattern R.bad_pattern R.pattern n)
  patterns_reads n = starting (of starts_pattern) inner.pattern_among
      (up_to pass quantity.Parts R.bad_pattern n inner.pattern inner.pattern_starts)

  patterns_exact : (n : ℕ) →
      Exact (At p) (Counted pass quantity.Parts n L.pattern) (of starts_pattern) (patterns_at pass may R n)
  unfolding patterns_at
  patterns_exact n = counted (λ n _. suc n) (λ n. Up_to pass quantity.Parts n L.pattern)
      (of starts_pattern) patterns_reads (λ x e. refl) (among_self (of starts_pattern))
      (nothing_among (of starts_pattern)) n

  patterns_some : (n : ℕ) → Sample (At p) (Counted pass quantity.Parts n L.pattern)
  patterns_some n = sample_run (λ n _. suc n) (λ n. Up_to pass quantity.Parts n L.pattern) n

  abbrev starts_inside : Class → Bool
  starts_inside class.Big = true
  starts_inside class.BigPath = true
  starts_inside c = starts_other_pattern c

  inside_reads : Reads (At p) (Inside pass may L) (of starts_inside) (of starts_pattern) (inside_at pass may R)
  unfolding inside_at
  inside_reads = starting (of starts_inside)
      (among_either (of is_constructor) (of starts_other_pattern) (of starts_inside)
      (among is_constructor starts_inside refl) (among starts_other_pattern starts_inside refl))
      (alt (of starts_pattern) (make group_of
      (seq (tok (of is_constructor) named_of) (patterns_exact 0) (patterns_some 0)))
      (make nested_of inner.other_pattern) (apart is_constructor starts_other_pattern refl)
      (among_self (of starts_pattern)) (nothing_among (of starts_pattern)))

  inside_some : Sample (At p) (Inside pass may L)
  inside_some = let s = inner.other_pattern_some in
      record {
        tokens = s.tokens;
        value = nested_of s.value;
        fault = s.fault;
        means = inr (s.value, s.means, refl);
        mild = s.mild;
      }

  bracketed_reads : Reads (At p) (Bracketed pass may L) (of is_left_paren) nothing (bracketed_at pass may R)
  unfolding bracketed_at
  bracketed_reads = make bracketed_of
      (seq (opener may is_left_paren)
      (join inside_reads (symbol is_right_paren) (symbol_some is_right_paren class.RightParen refl)
      (apart starts_pattern is_right_paren refl)).exact
      (sample_then inside_some (symbol_some is_right_paren class.RightParen refl)))

  dot_reads : Reads (At p) (Dot pass may L) (of is_dot_paren) nothing (dot_at pass may R)
  unfolding dot_at
  dot_reads = make dot_of (seq (opener may is_dot_paren) (closed pass may L R inner) (closed_some pass may L R inner))

  abbrev dot_or_bracket : Class → Bool
  dot_or_bracket class.DotParen = true
  dot_or_bracket class.LeftParen = true
  dot_or_bracket _ = false

  other_pattern_reads : Reads (At p) (OtherPattern pass may L) (of starts_other_pattern) nothing
      (other_pattern_at pass may R)
  unfolding other_pattern_at
  other_pattern_reads =
      let second = starting (of dot_or_bracket)
      (among_either (of is_dot_paren) (of is_left_paren) (of dot_or_bracket)
      (among is_dot_paren dot_or_bracket refl) (among is_left_paren dot_or_bracket refl))
      (alt nothing dot_reads bracketed_reads (apart is_dot_paren is_left_paren refl) (nothing_among nothing)
      (nothing_among nothing)) in
      starting (of starts_other_pattern)
      (among_either (of is_pattern_word) (of dot_or_bracket) (of starts_other_pattern)
      (among is_pattern_word starts_other_pattern refl) (among dot_or_bracket starts_other_pattern refl))
      (alt nothing (tok (of is_pattern_word) (λ x. pattern_word x.class x)) second
      (apart is_pattern_word dot_or_bracket refl) (nothing_among nothing) (nothing_among nothing))

  pattern_exact : Exact (At p) (IsPattern pass may L) nothing (pattern_at pass may R)
  unfolding pattern_at
  pattern_exact = (alt nothing (make bare_of (tok (of is_constructor) named_of)) other_pattern_reads
      (apart is_constructor starts_other_pattern refl) (nothing_among nothing) (nothing_among nothing)).exact

  begins_pattern : Begins (IsPattern pass may L) (of (pattern_starts may))
  begins_pattern =
      let t = pattern_starts may in
      begins_or _ (OtherPattern pass may L) (of t)
      (begins_making bare_of _ (of t)
      (begins_wider _ (of is_constructor) (of t)
      (among is_constructor t
      (by_both may (λ m. every (λ c. implies (is_constructor c) (pattern_starts m c))) refl refl))
      (begins_token (λ _. None) (of is_constructor) named_of)))
      (begins_or _ _ (of t) (begins_wider _ (of is_pattern_word) (of t)
      (among is_pattern_word t
      (by_both may (λ m. every (λ c. implies (is_pattern_word c) (pattern_starts m c))) refl refl))
      (begins_token (λ _. None) (of is_pattern_word) (λ x. pattern_word x.class x)))
      (begins_or (Dot pass may L) (Bracketed pass may L) (of t)
      (begins_making dot_of _ (of t)
      (begins_chain _ _ (of t)
      (begins_opener is_dot_paren t
      (by_may may (λ m. every (λ c. implies (is_dot_paren c) (pattern_starts m c))) refl))))
      (begins_making bracketed_of _ (of t)
      (begins_chain _ _ (of t)
      (begins_opener is_left_paren t
      (by_may may (λ m. every (λ c. implies (is_left_paren c) (pattern_starts m c))) refl))))))

  starts_dot : (x : Lexeme) → opens may (of is_dot_paren) x ≡ true → Started (IsPattern pass may L) (x ∷ [])
  unfolding sample_making sample_then sample_token
  starts_dot x e =
      let s = sample_making dot_of
      (sample_then (sample_token (opens may (of is_dot_paren)) place x e)
      (sample_then (inner.expr_some false)
      (sample_token (of is_right_paren) place (sign class.RightParen p) refl))) in
      record {
        more = (inner.expr_some false).tokens ++ sign class.RightParen p ∷ [];
        value = s.value;
        fault = s.fault;
        means = inr (inr (inl s.means));
      }

  starts_bracketed : (x : Lexeme) → opens may (of is_left_paren) x ≡ true → Started (IsPattern pass may L) (x ∷ [])
  unfolding sample_making sample_then sample_token
  starts_bracketed x e =
      let s = sample_making bracketed_of
      (sample_then (sample_token (opens may (of is_left_paren)) place x e)
      (sample_then inside_some (sample_token (of is_right_paren) place (sign class.RightParen p) refl))) in
      record {
        more = inside_some.tokens ++ sign class.RightParen p ∷ [];
        value = s.value;
        fault = s.fault;
        means = inr (inr (inr s.means));
      }

  starts_bare : (x : Lexeme) → of is_constructor x ≡ true → Started (IsPattern pass may L) (x ∷ [])
  starts_bare x e = record {
    more = [];
    value = bare_of (named_of x);
    fault = None;
    means = inl (named_of x, (x, refl, e, refl, refl), refl);
  }

  starts_word : (x : Lexeme) → of is_pattern_word x ≡ true → Started (IsPattern pass may L) (x ∷ [])
  starts_word x e = record {
    more = [];
    value = pattern_word x.class x;
    fault = None;
    means = inr (inl (x, refl, e, refl, refl));
  }

  pattern_started : (x : Lexeme) (c : Class) → x.class ≡ c → pattern_starts may c ≡ true →
      Started (IsPattern pass may L) (x ∷ [])
  pattern_started x class.LeftParen e h =
      starts_bracketed x (opens_here may (of is_left_paren) x h (ap is_left_paren e))
  pattern_started x class.DotParen e h = starts_dot x (opens_here may (of is_dot_paren) x h (ap is_dot_paren e))
  pattern_started x class.Big e h = starts_bare x (ap is_constructor e)
  pattern_started x class.BigPath e h = starts_bare x (ap is_constructor e)
  pattern_started x class.Small e h = starts_word x (ap is_pattern_word e)
  pattern_started x class.Wildcard e h = starts_word x (ap is_pattern_word e)
  pattern_started x _ e h = absurd cc

  -- ---- the level

  typing_reads : Reads (At p) (IsTyping pass may L) (of starts_typing) (of goes) (typing_at pass may R)
  unfolding typing_at
  typing_reads = starting (of starts_typing)
      (among_either (of is_left_brace) (of starts_expr) (of starts_typing)
      (among is_left_brace starts_typing refl) (among starts_expr starts_typing refl))
      (alt (of goes) (implicit_reads pass may L R inner) (expr_reads false) (apart is_left_brace starts_expr refl)
      (among_self (of goes)) (among_self (of goes)))

  pub level_inner : Inner p (Shape_of pass may L) (level_at pass may R)
  level_inner = record {
    expr = expr_reads;
    expr_some = expr_some;
    statement = λ tail. record { exact = (statement_reads tail).exact; begins = begins_statement tail };
    statement_some = statement_some;
    statement_ends = statement_ends;
    statement_starts = λ tail x h. started_at tail x x.class refl h;
    typing = typing_reads;
    typing_some = (let s = expr_some false in
        record { tokens = s.tokens; value = s.value; fault = s.fault; means = inr s.means; mild = s.mild });
    binder = binder_reads pass may L R inner;
    binder_some = binder_some pass may L R inner;
    pattern = record { exact = pattern_exact; begins = begins_pattern };
    pattern_starts = λ x h. pattern_started x x.class refl h;
    pattern_among = among (pattern_starts may) starts_pattern
        (by_both may (λ m. every (λ c. implies (pattern_starts m c) (starts_pattern c))) refl refl);
    other_pattern = other_pattern_reads;
    other_pattern_some = record {
      tokens = a_name ∷ [];
      value = pattern_word class.Small a_name;
      fault = None;
      means = inl (a_name, refl, refl, refl, refl);
      mild = tt;
    };
  }

-- ---- all levels

pub simple_inner : (p : Span) → Inner p Simple_level simple_reader
simple_inner p =
    let x = word class.Small p (codes "a") in
    let named = make name (tok (of is_name) named_of) in
    let word_pattern = tok (of is_pattern_word) (λ x. pattern_word x.class x) in
    record {
      expr = λ _. ending (of goes) (nothing_among (of goes))
          (starting (of starts_expr) (among is_name starts_expr refl) named);
      expr_some = λ _. record {
        tokens = x ∷ [];
        value = name (named_of x);
        fault = None;
        means = (named_of x, (x, refl, refl, refl, refl), refl);
        mild = tt;
      };
      statement = λ _. ending (of goes_or_in) (nothing_among (of goes_or_in)) (make run_of (place_of place named));
      statement_some = λ _. record {
        sample = record {
          tokens = x ∷ [];
          value = run_of (p, name (named_of x));
          fault = None;
          means = (
            (p, name (named_of x)),
            (x, [], refl, refl, (named_of x, (x, refl, refl, refl, refl), refl)),
            refl,
          );
          mild = tt;
        };
        head = x;
        rest = [];
        tokens = refl;
        place = refl;
      };
      statement_ends = λ _ n. refl;
      statement_starts = λ _ y h. record {
        more = [];
        value = run_of (y.place, name (named_of y));
        fault = None;
        means = (
          (y.place, name (named_of y)),
          (y, [], refl, refl, (named_of y, (y, refl, h, refl, refl), refl)),
          refl,
        );
      };
      typing = ending (of goes) (nothing_among (of goes))
          (starting (of starts_typing) (among is_name starts_typing refl) named);
      typing_some = record {
        tokens = x ∷ [];
        value = name (named_of x);
        fault = None;
        means = (named_of x, (x, refl, refl, refl, refl), refl);
        mild = tt;
      };
      binder = starting (of starts_binder) (among is_bname starts_binder refl)
          (make plain (tok (of is_bname) local_of));
      binder_some = record {
        tokens = x ∷ [];
        value = plain (local_of x);
        fault = None;
        means = (local_of x, (x, refl, refl, refl, refl), refl);
        mild = tt;
      };
      pattern = word_pattern;
      pattern_starts = λ y h. record
          { more = []; value = pattern_word y.class y; fault = None; means = (y, refl, h, refl, refl) };
      pattern_among = among is_pattern_word starts_pattern refl;
      other_pattern = starting (of starts_other_pattern) (among is_pattern_word starts_other_pattern refl) word_pattern;
      other_pattern_some = record {
        tokens = x ∷ [];
        value = pattern_word class.Small x;
        fault = None;
        means = (x, refl, refl, refl, refl);
        mild = tt;
      };
    }

pub levels_looks : (pass : Pass) (d : ℕ) → Looks ((levels_at pass d).expr false)
unfolding levels_at
levels_looks pass zero = expr_looks pass false simple_reader false
levels_looks pass (suc d) = expr_looks pass true (levels_at pass d) false

pub levels_inner : (p : Span) (pass : Pass) (d : ℕ) → Inner p (levels pass d) (levels_at pass d)
unfolding levels levels_at
levels_inner p pass zero = level_inner pass false Simple_level simple_reader (simple_inner p) (λ e. absurd cc)
levels_inner p pass (suc d) =
    level_inner pass true (levels pass d) (levels_at pass d) (levels_inner p pass d) (λ e. levels_looks pass d)
