-- Where a run begins, it is under way.
use Rattle.std.proofs.Common.{◌≡◌, ℕ, ◌≤◌, List, [], Option, Some, None, option_map, inl, refl, sym, ◌∙◌, ap, subst, append-nil, arith}
use Rattle.std.specs.Prelude.{IfSome}
use Rattle.std.specs.Option.{ForSome}
use Rattle.qtt_base.specs.declared.place.GlobalId.{GlobalId}
use Rattle.qtt_prims.specs.Tapes.{Taped}
use Rattle.qtt_edge.specs.Sink.{Adds}
use Rattle.qtt_term.specs.Signature.{Env, UnitTy}
use Rattle.qtt_term.specs.Keyed.{with_id}
use Rattle.qtt_term.proofs.Options.{some-injective}
use Rattle.qtt_code.specs.Machine as machine
use Rattle.qtt_code.specs.Forward.{AllJumpForward}
use Rattle.qtt_machine.specs.Runs.{Answers}
use Rattle.qtt_lower.specs.declared.program.Compiled.{Compiled}
use Rattle.qtt_lower.specs.Programs.{base_id, bodies}
use Rattle.qtt_lower.specs.Whole.{compiled_program, compiled_bases}
use Rattle.qtt_lower.proofs.Forward.{jumps-go-forward}
use Rattle.qtt_run.specs.declared.running.Running.{Running}
use Rattle.qtt_run.specs.Beside.{IsTyped}
use Rattle.qtt_run.specs.CodeRun.{Now, Runs, Seen, start}
use Rattle.qtt_run.specs.Front.{Failure}
use Rattle.qtt_run.specs.Handles.{Mirrors}
use Rattle.qtt_run.specs.Laws.{CodeKeepsTypes}
use Rattle.qtt_run.specs.Lines.{LeftOver}
use Rattle.qtt_run.specs.Program.{block_of, IsCodeOfMain}
use Rattle.qtt_run.specs.Underway.{Origin, Began, Broken, IsTypedIn, Underway, Computes, StartsAt, RestsAtStart, waiting_of}
use Rattle.qtt_run.proofs.Keeping.{code-keeps-types}
use Rattle.qtt_run.proofs.TypedCode.{typed-answers, typed-runs}

adds-zero : (u : Option (List ℕ)) → Adds u u []
adds-zero None = refl
adds-zero (Some held) = ap (λ l. Some l) (sym (append-nil held))

tells-zero : (t : Option (List Taped)) → ForSome t (λ all. all ≡ []) → t ≡ option_map (λ _. []) t
tells-zero None e = refl
tells-zero (Some all) e = ap (λ l. Some l) (e all refl)

some-told : (content : Option (List ℕ)) → (i : List ℕ) × IfSome content (λ bytes. i ≡ bytes)
some-told None = ([], tt)
some-told (Some all) = (all, refl)

some-input : (m : Running) (content : Option (List ℕ)) → ((i : List ℕ) → RestsAtStart m content i) →
    (i : List ℕ) × LeftOver m.lines content i
some-input m None h = ([], (h []).1 tt)
some-input m (Some all) h = (all, (h all).1 refl)

module _ (c : Compiled) (main : GlobalId) (E : Env) (k : IsCodeOfMain c main E) (block : ℕ)
    (begins : option_map block_of (with_id base_id main (compiled_bases c)) ≡ Some block) where
  pub start-typed : (i : List ℕ) → IsTypedIn (compiled_program c) (start block i)
  start-typed i =
      let laws : CodeKeepsTypes E k.ids = code-keeps-types E k.well_formed k.complete k.ids k.listed in
      record {
        env = E;
        ids = k.ids;
        well_formed = k.well_formed;
        complete = k.complete;
        listed = k.listed;
        program = k.program;
        typed =
            subst (λ n. IsTyped E k.ids UnitTy (start n i)) (some-injective (sym k.begins ∙ begins))
            (laws.starts main k.is_main i);
      }

  pub start-answers : Answers (compiled_program c) (machine.start block)
  start-answers bound = typed-answers (start-typed []) (machine.start block) refl bound

  pub start-jumps : AllJumpForward (compiled_program c)
  start-jumps = subst AllJumpForward (sym k.program) (jumps-go-forward (bodies E k.ids))

  module _ (bound : ℕ) (small : bound ≤ 4000000000) (content output : Option (List ℕ))
      (told : Option (List Taped)) where
    abbrev pub origin : Origin
    origin = record {
      program = compiled_program c;
      jumps = start-jumps;
      block = block;
      bound = bound;
      small = small;
      input = content;
      output = output;
      tapes = told;
    }

    -- nothing is done yet
    pub start-broken : ForSome told (λ all. all ≡ []) → Broken origin Failure.memory bound output told
    start-broken none =
        let (i, p) = some-told content in
        let (r, run) = typed-runs (start-typed i) bound 0 in
        record {
          seen = r;
          began = record { input = i; told = p; run = run };
          did = record {
            events = [];
            later = r.events;
            front = refl;
            part = inl (record { output = adds-zero output; tapes = tells-zero told none });
          };
          made = 0;
          counted = omega arith;
          reached = omega arith;
        }

    pub begins-underway : (m : Running) → StartsAt (compiled_program c) block m →
        ((i : List ℕ) → RestsAtStart m content i) → m.left ≡ bound →
        ForSome told (λ all. all ≡ []) → Mirrors m.handles told [] → Computes origin m content output told
    begins-underway m s rests e none mirrors = (machine.start block, record { run = run; stands = s.0 })
      where
        way : (i : List ℕ) → LeftOver m.lines content i →
            (r : Seen) → Runs (compiled_program c) m.left 0 (start block i) r → Began origin r
        way i p r x = record {
          input = i;
          told = (rests i).0 p;
          run = subst (λ n. Runs (compiled_program c) n 0 (start block i) r) e x;
        }

        run : Underway origin (Now.computing (machine.start block)) (waiting_of m) m.left
            (LeftOver m.lines content) m.handles output told
        run =
            subst (λ ws. Underway origin (Now.computing (machine.start block)) ws m.left
            (LeftOver m.lines content) m.handles output told)
            (sym s.1)
            (record {
              events = [];
              opened = [];
              made = 0;
              typed = start-typed;
              way = way;
              some = some-input m content rests;
              counted = omega (arith, e);
              few = omega arith;
              puts = adds-zero output;
              tells = tells-zero told none;
              listed = refl;
              mirrors = mirrors;
            })
