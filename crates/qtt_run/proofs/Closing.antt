-- All open tapes of a run are closed, one after the other.
use Rattle.std.proofs.Common.{◌≡◌, ℕ, zero, suc, ◌+◌, ◌<◌, Bool, true, false, cond, List, [], ◌∷◌, ◌++◌, length, map, get_or, take}
use Rattle.std.proofs.Common.{Option, Some, None, option_map, refl, sym, ap, ◌∙◌, subst, arith, add-one, add-zero, zero-add, append_assoc}
use Rattle.std.proofs.lemmas.List.{length-append}
use Rattle.qtt_prims.specs.Tapes.{Taped, shut, changed}
use Rattle.qtt_edge.specs.Tapes.{IsOpenAt, KeepsOthers}
use Rattle.qtt_term.specs.FullRun.{Event, closes_from, all_shut, tape_list}
use Rattle.qtt_run.specs.Handles.{flag_of, is_open, Mirrors, ClosesFront}
use Rattle.qtt_run.proofs.Handling.{same-length}
use Rattle.qtt_run.specs.declared.handles.Handle.{Handle}
use Rattle.qtt_run.specs.declared.handles.Handles.{Handles}

-- the first tapes are closed
abbrev pub shut_front : ℕ → List Taped → List Taped
shut_front zero tapes = tapes
shut_front (suc place) [] = []
shut_front (suc place) (t ∷ ts) = shut t ∷ shut_front place ts

pub shut-next : (place : ℕ) (tapes : List Taped) →
    changed place shut (shut_front place tapes) ≡ shut_front (suc place) tapes
shut-next zero [] = refl
shut-next zero (t ∷ ts) = refl
shut-next (suc place) [] = refl
shut-next (suc place) (t ∷ ts) = ap (λ us. shut t ∷ us) (shut-next place ts)

pub shut-all : (place : ℕ) (tapes : List Taped) → place ≡ length tapes → shut_front place tapes ≡ all_shut tapes
shut-all zero [] len = refl
shut-all (suc place) [] len = let wrong : ⊥ = omega arith in absurd wrong
shut-all zero (t ∷ ts) len = let wrong : ⊥ = omega arith in absurd wrong
shut-all (suc place) (t ∷ ts) len = ap (λ us. shut t ∷ us) (shut-all place ts (omega arith))

shut-same : (tape : Taped) → tape.is_open ≡ false → shut tape ≡ tape
shut-same tape closed = ap (λ flag. record tape { is_open = flag }) (sym closed)

-- ---- what the handle at a place says of the tape
pub open-here : (place : ℕ) (handles : List Handle) (tapes : List Taped) (handle : Handle) →
    map flag_of handles ≡ map is_open tapes →
    place < length handles → handle ≡ get_or handles place handle → handle.is_open ≡ true → IsOpenAt place tapes
open-here place [] tapes handle flags within is opens = let wrong : ⊥ = omega arith in absurd wrong
open-here place (h ∷ hs) [] handle flags within is opens = let wrong : ⊥ = cc in absurd wrong
open-here zero (h ∷ hs) (t ∷ ts) handle flags within is opens = cc
open-here (suc place) (h ∷ hs) (t ∷ ts) handle flags within is opens =
    let shorter : map flag_of hs ≡ map is_open ts = cc in open-here place hs ts handle shorter (omega arith) is opens

pub shut-here : (place : ℕ) (handles : List Handle) (tapes : List Taped) (handle : Handle) →
    map flag_of handles ≡ map is_open tapes →
    place < length handles → handle ≡ get_or handles place handle → handle.is_open ≡ false →
    changed place shut tapes ≡ tapes
shut-here place [] tapes handle flags within is closed = let wrong : ⊥ = omega arith in absurd wrong
shut-here place (h ∷ hs) [] handle flags within is closed = let wrong : ⊥ = cc in absurd wrong
shut-here zero (h ∷ hs) (t ∷ ts) handle flags within is closed =
    let shut-now : t.is_open ≡ false = cc in ap (λ u. u ∷ ts) (shut-same t shut-now)
shut-here (suc place) (h ∷ hs) (t ∷ ts) handle flags within is closed =
    let shorter : map flag_of hs ≡ map is_open ts = cc in
    ap (λ us. t ∷ us) (shut-here place hs ts handle shorter (omega arith) is closed)

-- ---- the tapes that the outside tells
pub told-now : (handles : Handles) (told : Option (List Taped)) (tapes : List Taped) → Mirrors handles told tapes →
    told ≡ option_map (λ _. tapes) told
told-now handles None tapes mirrors = refl
told-now handles (Some all) tapes mirrors = let same : all ≡ tapes = mirrors.same in ap Some same

pub told-next : (before now next : Option (List Taped)) (place : ℕ) (tapes : List Taped) →
    now ≡ option_map (λ _. shut_front place tapes) before → next ≡ option_map (changed place shut) now →
    next ≡ option_map (λ _. shut_front (suc place) tapes) before
told-next None now next place tapes is changes = changes ∙ ap (option_map (changed place shut)) is
told-next (Some all) now next place tapes is changes =
    changes ∙ ap (option_map (changed place shut)) is ∙ ap Some (shut-next place tapes)

-- ---- the events of the closes
front-step : (opens : Bool) (e : Event) (all some later : List Event) → all ≡ some ++ later →
    cond opens (e ∷ all) all ≡ cond opens (e ∷ some) some ++ later
front-step true e all some later is = ap (λ es. e ∷ es) is
front-step false e all some later is = is

-- those of the first places, and then the one of an open tape
closes-front : (number place here : ℕ) (tapes : List Taped) → here ≡ number + place → IsOpenAt place tapes →
    (later : List Event) ×
    (closes_from number tapes ≡ closes_from number (take place tapes) ++ Event.closed_tape here ∷ later)
closes-front number place here [] is opens = absurd opens
closes-front number zero here (t ∷ ts) is opens = (
  closes_from (suc number) ts,
  ap (λ b. cond b (Event.closed_tape number ∷ closes_from (suc number) ts) (closes_from (suc number) ts)) opens
      ∙ ap (λ n. Event.closed_tape n ∷ closes_from (suc number) ts) (sym (is ∙ add-zero number)),
)
closes-front number (suc place) here (t ∷ ts) is opens =
    let rest = closes-front (suc number) place here ts (omega (arith, is)) opens in
    let some = closes_from (suc number) (take place ts) in (
      rest.0,
      front-step t.is_open (Event.closed_tape number) (closes_from (suc number) ts) some
          (Event.closed_tape here ∷ rest.0) rest.1,
    )

-- the tape behind the closed ones is opens as before
open-before : (place : ℕ) (tapes : List Taped) → IsOpenAt place (shut_front place tapes) → IsOpenAt place tapes
open-before zero tapes opens = opens
open-before (suc place) [] opens = opens
open-before (suc place) (t ∷ ts) opens = open-before place ts opens

changed-behind : (done ts : List Taped) (t : Taped) → changed (length done) shut (done ++ t ∷ ts) ≡ done ++ shut t ∷ ts
changed-behind [] ts t = refl
changed-behind (d ∷ done) ts t = ap (λ us. d ∷ us) (changed-behind done ts t)

list-step : (opens : Bool) (number : ℕ) (done ts shut-ts : List Taped) (t : Taped) (es : List Event) →
    opens ≡ t.is_open →
    number ≡ length done → tape_list ((done ++ shut t ∷ []) ++ ts) es ≡ (done ++ shut t ∷ []) ++ shut-ts →
    tape_list (done ++ t ∷ ts) (cond opens (Event.closed_tape number ∷ es) es) ≡ done ++ shut t ∷ shut-ts
list-step true number done ts shut-ts t es is at rest =
    ap (λ n. tape_list (changed n shut (done ++ t ∷ ts)) es) at
    ∙ ap (λ us. tape_list us es) (changed-behind done ts t ∙ sym (append_assoc done (shut t ∷ []) ts))
    ∙ rest ∙ append_assoc done (shut t ∷ []) shut-ts
list-step false number done ts shut-ts t es is at rest =
    ap (λ u. tape_list (done ++ u ∷ ts) es) (sym (shut-same t (sym is)))
    ∙ ap (λ us. tape_list us es) (sym (append_assoc done (shut t ∷ []) ts))
    ∙ rest ∙ append_assoc done (shut t ∷ []) shut-ts

list-shut : (place number : ℕ) (done ts : List Taped) → number ≡ length done →
    tape_list (done ++ ts) (closes_from number (take place ts)) ≡ done ++ shut_front place ts
list-shut zero number done ts at = refl
list-shut (suc place) number done [] at = refl
list-shut (suc place) number done (t ∷ ts) at =
    list-step t.is_open number done ts (shut_front place ts) t (closes_from (suc number) (take place ts)) refl at
    (list-shut place (suc number) (done ++ shut t ∷ []) ts (omega (arith, length-append done (shut t ∷ []))))

-- a close failed, and those before it were done
pub closed-front : (tapes : List Taped) (before now after : Option (List Taped)) (place : ℕ) →
    now ≡ option_map (λ _. shut_front place tapes) before → IsOpenAt place (shut_front place tapes) →
    KeepsOthers place now after → ClosesFront tapes before after
closed-front tapes before now after place is opens keeps =
    let events = closes_from 0 (take place tapes) in
    let list : shut_front place tapes ≡ tape_list tapes events = sym (list-shut place 0 [] tapes refl) in
    let rest = closes-front 0 place place tapes (sym (zero-add place)) (open-before place tapes opens) in
    record {
      closed = events;
      place = place;
      later = rest.0;
      front = rest.1;
      others = subst (λ told. KeepsOthers place told after) (is ∙ ap (λ us. option_map (λ _. us) before) list) keeps;
    }

-- ---- the loop over the places
-- the tapes of the places before this one are closed, and nothing else was done
pub record ShutsFront (initial handles : Handles) (before now : Option (List Taped)) (place : ℕ) : Type 0 where
  pub count : length handles.all.items ≡ length initial.all.items
  pub mirrors : (ts : List Taped) → Mirrors initial before ts → Mirrors handles now (shut_front place ts)
  pub told : (ts : List Taped) → Mirrors initial before ts → now ≡ option_map (λ _. shut_front place ts) before

pub shuts-none : (handles : Handles) (told : Option (List Taped)) → ShutsFront handles handles told told 0
shuts-none handles told =
    record {
      count = refl;
      mirrors = λ ts mirrors. mirrors;
      told = λ ts mirrors. told-now handles told ts mirrors;
    }

length-changed : (place : ℕ) (tapes : List Taped) → length (changed place shut tapes) ≡ length tapes
length-changed place [] = refl
length-changed zero (t ∷ ts) = refl
length-changed (suc place) (t ∷ ts) = ap suc (length-changed place ts)

pub shuts-one : (initial handles new : Handles) (before now next : Option (List Taped)) (place : ℕ) →
    (ts : List Taped) × Mirrors initial before ts → ShutsFront initial handles before now place →
    ((ts : List Taped) → Mirrors handles now ts → Mirrors new next (changed place shut ts)) →
    next ≡ option_map (changed place shut) now → ShutsFront initial new before next (place + 1)
shuts-one initial handles new before now next place some shuts closes is =
    let old = shuts.mirrors some.0 some.1 in
    let shut-now = closes (shut_front place some.0) old in
    rw add-one
    (record {
      count =
          same-length new.all.items (changed place shut (shut_front place some.0)) shut-now.flags
          ∙ length-changed place (shut_front place some.0)
          ∙ sym (same-length handles.all.items (shut_front place some.0) old.flags) ∙ shuts.count;
      mirrors = λ ts mirrors.
          subst (Mirrors new next) (shut-next place ts) (closes (shut_front place ts) (shuts.mirrors ts mirrors));
      told = λ ts mirrors. told-next before now next place ts (shuts.told ts mirrors) is;
    })

pub shuts-same : (initial handles : Handles) (before now : Option (List Taped)) (place : ℕ) (handle : Handle) →
    ShutsFront initial handles before now place → place < length handles.all.items →
    handle ≡ get_or handles.all.items place handle →
    handle.is_open ≡ false → ShutsFront initial handles before now (place + 1)
shuts-same initial handles before now place handle shuts within is closed =
    let stays : (ts : List Taped) → Mirrors handles now (shut_front place ts) →
    shut_front place ts ≡ shut_front (suc place) ts =
    λ ts old. sym (shut-here place handles.all.items (shut_front place ts) handle old.flags within is closed) ∙
    shut-next place ts in
    rw add-one
    (record {
      count = shuts.count;
      mirrors = λ ts mirrors.
          let old = shuts.mirrors ts mirrors in
          subst (Mirrors handles now) (stays ts old) old;
      told = λ ts mirrors.
          let old = shuts.mirrors ts mirrors in
          shuts.told ts mirrors ∙ ap (λ us. option_map (λ _. us) before) (stays ts old);
    })
