-- What reading a line does to a run under way, and the end of a run that traps.
use Rattle.std.proofs.Common.{◌≡◌, ◌≢◌, ℕ, suc, ◌+◌, ◌≤◌, true, false, cond, List, [], ◌∷◌, ◌++◌, length, Option, option_map, refl, sym, ◌∙◌, ap, subst, append_assoc, arith}
use Rattle.qtt_prims.specs.Lines.{line_of, after_line, is_line}
use Rattle.qtt_prims.specs.Tapes.{Taped}
use Rattle.qtt_edge.specs.Sink.{Adds}
use Rattle.qtt_edge.specs.Tapes.{KeepsOthers}
use Rattle.qtt_edge.specs.declared.tapes.TapeError.{TapeError}
use Rattle.qtt_term.specs.FullStep.{Cause}
use Rattle.qtt_term.specs.FullRun.{Event, Verdict, closes_from, all_shut, tape_list}
use Rattle.qtt_code.specs.Value.{Value}
use Rattle.qtt_machine.specs.declared.event.TrapKind.{TrapKind}
use Rattle.qtt_machine.specs.Events.{cause}
use Rattle.qtt_run.specs.declared.handles.Handles.{Handles}
use Rattle.qtt_run.specs.declared.program.RunHow.TheVariants as how
use Rattle.qtt_run.specs.CodeRun.{Now, Config, Turn, turn, read, pure_eof, pure_got, seen, Runs}
use Rattle.qtt_run.specs.Deed.{gets}
use Rattle.qtt_run.specs.Handles.{ClosesFront}
use Rattle.qtt_run.specs.Stop.{tape_failure}
use Rattle.qtt_run.specs.Underway.{Origin, Underway, outside, Finished, Broken, Trapping}
use Rattle.qtt_run.proofs.TypedCode.{typed-turns, typed-over}
use Rattle.qtt_run.proofs.Telling.{text-closes, told-append, tells-then}
use Rattle.qtt_run.proofs.Waiting.{At}
use Rattle.qtt_run.proofs.Effects.{tape-part}

read-line : (c : Config) (i : List ℕ) → i ≢ [] → is_line (line_of i) ≡ true →
    read c i ≡ Turn.goes (record c { now = Now.gave (pure_got (line_of i)); input = after_line i })
read-line c [] n e = absurd (n refl)
read-line c (b ∷ bs) n e =
    ap (λ t. cond t (Turn.goes (record c { now = Now.gave (pure_got (line_of (b ∷ bs))); input = after_line (b ∷ bs) }))
    (Turn.halts (Verdict.trapped Cause.bad_input_line))) e

read-bad : (c : Config) (i : List ℕ) → i ≢ [] → is_line (line_of i) ≡ false →
    read c i ≡ Turn.halts (Verdict.trapped Cause.bad_input_line)
read-bad c [] n e = absurd (n refl)
read-bad c (b ∷ bs) n e =
    ap (λ t. cond t (Turn.goes (record c { now = Now.gave (pure_got (line_of (b ∷ bs))); input = after_line (b ∷ bs) }))
    (Turn.halts (Verdict.trapped Cause.bad_input_line))) e

-- from a given input a read gives a value, and leaves a rest
pub record Reads (v : Value) (i rest : List ℕ) : Type 0 where
  pub goes : (c : Config) → c.input ≡ i → read c c.input ≡ Turn.goes (record c { now = Now.gave v; input = rest })

pub reads-line : (s i rest : List ℕ) →
    (i ≢ []) × (is_line (line_of i) ≡ true) × (s ≡ line_of i) × (rest ≡ after_line i) →
    Reads (pure_got s) i rest
reads-line s i rest (n, l, p, q) = record {
  goes = λ c e.
      ap (read c) e ∙ read-line c i n l
      ∙ ap (λ s. Turn.goes (record c { now = Now.gave (pure_got s); input = after_line i })) (sym p)
      ∙ ap (λ r. Turn.goes (record c { now = Now.gave (pure_got s); input = r })) (sym q);
}

pub reads-end : (i rest : List ℕ) → (i ≡ []) × (rest ≡ []) → Reads pure_eof i rest
reads-end i rest (p, q) = record {
  goes = λ c e.
      ap (read c) (e ∙ p)
      ∙ ap (λ r. Turn.goes (record c { now = Now.gave pure_eof; input = r })) (e ∙ p ∙ sym q);
}

module _ {o : Origin} where
  module _ {ws : List Value} {left : ℕ} {R : List ℕ → Type 0} {h : Handles} {u : Option (List ℕ)}
      {t : Option (List Taped)}
      (a : Underway o (Now.gave gets) ws left R h u t) where
    module _ (v : Value) (Q : List ℕ → Type 0) (back : (rest : List ℕ) → Q rest → (i : List ℕ) × R i × Reads v i rest)
        (some : (rest : List ℕ) × Q rest) where
      got : (i rest : List ℕ) → Reads v i rest →
          turn (At (Now.gave gets) ws i a.events a.opened) gets ≡ Turn.goes (At (Now.gave v) ws rest a.events a.opened)
      got i rest r = r.goes (At (Now.gave gets) ws i a.events a.opened) refl

      pub got-acts : (more : ℕ) → left ≡ suc more → Underway o (Now.gave v) ws more Q h u t
      got-acts more e =
          let c : a.made + left ≡ o.bound = a.counted in
          let f : length a.opened ≤ a.made = a.few in
          let (rest, q) = some in
          let (i, p, r) = back rest q in
          record {
            events = a.events;
            opened = a.opened;
            made = suc a.made;
            typed = λ j. typed-over (typed-turns (a.typed i) (At (Now.gave v) ws rest a.events a.opened) gets refl
                (got i rest r)) j;
            way = λ rest q x run.
                let (i, p, r) = back rest q in
                a.way i p x
                (subst (λ l. Runs o.program l a.made (At (Now.gave gets) ws i a.events a.opened) x) (sym e)
                (Runs.acts refl (got i rest r) run));
            some = some;
            counted = omega (arith, c, e);
            few = omega (arith, f);
            puts = a.puts;
            tells = a.tells;
            listed = a.listed;
            mirrors = a.mirrors;
          }

      pub got-bound : left ≡ 0 → Finished o how.Bound left u t
      got-bound e =
          let (rest, q) = some in
          let (i, p, r) = back rest q in
          let c : Config = At (Now.gave gets) ws i a.events a.opened in
          record {
            seen = seen Verdict.running a.made c;
            began =
                a.way i p (seen Verdict.running a.made c)
                (subst (λ l. Runs o.program l a.made c (seen Verdict.running a.made c)) (sym e)
                (Runs.stays refl (got i rest r)));
            verdict = refl;
            counted = a.counted;
            puts = a.puts;
            tells = a.tells;
          }

    -- no line: the run traps
    pub bad-traps : (i : List ℕ) → R i → (i ≢ []) × (is_line (line_of i) ≡ false) →
        Trapping o Cause.bad_input_line left h u t
    bad-traps i p (n, e) =
        let c : Config = At (Now.gave gets) ws i a.events a.opened in
        record {
          events = a.events;
          opened = a.opened;
          input = i;
          count = a.made;
          began = a.way i p (seen (Verdict.trapped Cause.bad_input_line) a.made c) (Runs.halts refl (read-bad c i n e));
          counted = a.counted;
          few = a.few;
          puts = a.puts;
          tells = a.tells;
          listed = a.listed;
          mirrors = a.mirrors;
        }

  -- ---- the open tapes are closed
  module _ (k : TrapKind) {left : ℕ} {h : Handles} {u : Option (List ℕ)} {t : Option (List Taped)}
      (a : Trapping o (cause k) left h u t) where
    pub trap-ends : (w : Option (List Taped)) → w ≡ option_map (λ _. all_shut a.opened) t →
        Finished o (how.Trapped k) left u w
    trap-ends w e = record {
      seen = record {
        verdict = Verdict.trapped (cause k);
        count = a.count;
        input = a.input;
        events = a.events ++ closes_from 0 a.opened;
        tapes = all_shut a.opened;
      };
      began = a.began;
      verdict = refl;
      counted = a.counted;
      puts =
          subst (Adds o.output u) (sym
          (text-closes a.events (closes_from 0 a.opened) [] 0 a.opened
          (sym (append-none (closes_from 0 a.opened)))))
          a.puts;
      tells = tells-then o.tapes t w a.opened (λ _. all_shut a.opened) a.tells e;
    }
      where
        append-none : (es : List Event) → es ++ [] ≡ es
        append-none [] = refl
        append-none (e ∷ es) = ap (λ ds. e ∷ ds) (append-none es)

    pub trap-breaks : (failed : TapeError) (w : Option (List Taped)) → ClosesFront a.opened t w →
        Broken o (tape_failure failed) left u w
    trap-breaks failed w f =
        let later : List Event = Event.closed_tape f.place ∷ f.later in
        let behind : List Taped → List Taped = λ ts. tape_list ts f.closed in
        record {
          seen = record {
            verdict = Verdict.trapped (cause k);
            count = a.count;
            input = a.input;
            events = a.events ++ closes_from 0 a.opened;
            tapes = all_shut a.opened;
          };
          began = a.began;
          did = record {
            events = a.events ++ f.closed;
            later = later;
            front = ap (λ es. a.events ++ es) f.front ∙ sym (append_assoc a.events f.closed later);
            part =
                tape-part failed (a.events ++ f.closed) later (outside o u w)
                (record {
                  next = Event.closed_tape f.place;
                  rest = f.later;
                  is = refl;
                  output =
                      subst (Adds o.output u) (sym (text-closes a.events f.closed later 0 a.opened f.front)) a.puts;
                  tapes =
                      subst (λ q. KeepsOthers f.place q w)
                      (tells-then o.tapes t (option_map (λ _. behind a.opened) t) a.opened
                      (λ _. behind a.opened) a.tells refl
                      ∙ ap (λ ts. option_map (λ _. ts) o.tapes)
                      (ap behind (sym a.listed) ∙ sym (told-append [] a.events f.closed)))
                      f.others;
                });
          };
          made = a.count;
          counted = a.counted;
          reached = omega arith;
        }
