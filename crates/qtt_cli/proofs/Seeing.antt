-- What is seen of a call, by its devices.
use Rattle.std.proofs.Common.{ℕ, List, Option, Some, String, Global}
use Rattle.qtt_prims.specs.Tapes.{Taped}
use Rattle.qtt_edge.specs.Counts.{Rose}
use Rattle.qtt_load.specs.Reading.{Texts}
use Rattle.qtt_cli.specs.Answers.{Call}
use Rattle.qtt_cli.specs.Seen.{Seen, one_of}

-- a count, before the call and behind it
pub record Count : Type 0 where
  pub before : ℕ
  pub now : ℕ

abbrev pub rose : Count → Type 0
rose c = Rose c.before c.now

abbrev pub seen_at : Option Texts → Option (List ℕ) → (output_before output : Option (List ℕ)) →
    (tapes_before tapes : Option (List Taped)) → (vault input output_faults tape misses : Count) → Seen
seen_at texts input output_before output tapes_before tapes vault source sink tape misses = record {
  texts = texts;
  input = input;
  outside = record {
    output_before = output_before;
    output = output;
    tapes_before = tapes_before;
    tapes = tapes;
  };
  failed = one_of (rose vault) (rose source) (rose sink) (rose tape);
  missed = rose misses;
}

abbrev pub count : ℕ → ℕ → Count
count before now = record { before = before; now = now }

-- where no vault is asked
abbrev pub seen_apart : Texts → Option (List ℕ) → (output_before output : Option (List ℕ)) →
    (tapes_before tapes : Option (List Taped)) → Seen
seen_apart texts input output_before output tapes_before tapes = record {
  texts = Some texts;
  input = input;
  outside = record {
    output_before = output_before;
    output = output;
    tapes_before = tapes_before;
    tapes = tapes;
  };
  failed = one_of ⊥ (Unit {0}) (Unit {0}) (Unit {0});
  missed = ⊥;
}

abbrev pub call_at : List (String Global) → Seen → (err_before err : Option (List ℕ)) → Count → Call
call_at words seen err_before err faults = record {
  words = words;
  seen = seen;
  err_before = err_before;
  err = err;
  err_failed = rose faults;
}
