-- What the parts of a run promise, together.
use Rattle.std.proofs.Common.{inl, inr, refl}
use Rattle.kmip_refresh.specs.KnownKeys.{keys_of}
use Rattle.kmip_desk.specs.DeskRuns.{known_of}
use Rattle.kmip_desk.proofs.BeginLemmas.{at_fault, begins_kept, not_made}
use Rattle.kmip_desk.proofs.running.run_at_desk.Goals as goal

pub returns-in_err-client-clause-alone : goal.returns-in_err-client-clause-alone
returns-in_err-client-clause-alone g c = at_fault c.from_residual.result _ (not_made _ _)

pub returns-in_err-begins-clause-alone : goal.returns-in_err-begins-clause-alone
returns-in_err-begins-clause-alone g c = at_fault c.from_residual-in_err-begins.result _ (not_made _ _)

pub returns-in_err-unanswered-clause-alone : goal.returns-in_err-unanswered-clause-alone
returns-in_err-unanswered-clause-alone g c =
    at_fault c.from_residual-in_err-unanswered.result _
    (record { unsaved = refl; keys = keys_of (known_of c.in_ok-client.field-0.client); alone = c.ask_first.ensures.alone })

pub returns-in-Some-clause-went : goal.returns-in-Some-clause-went
returns-in-Some-clause-went g c = inl (record {
  unsaved = refl;
  keys = keys_of (known_of c.in_ok-client.field-0.client);
  alone = c.ask_first.ensures.alone;
})

pub returns-clause-done : goal.returns-clause-done
returns-clause-done g c = λ is. record {
  start = record {
    first = c.in_ok-client.field-0.client;
    looked_at = c.in_ok-client.field-0.looked_at;
    begun = record {
      begins = begins_kept _ _ _ _ _ _ _ _ c.ask_first.ensures.kept c.in_ok-client.ensures.begins;
      noted = λ lawful.
          c.in_ok-unanswered.ensures.noted (c.in_ok-client.ensures.begins.stood lawful).lawful
          (c.in_ok-client.ensures.noted lawful) c.in-None.is;
    };
    between = c.ask_first.new.link;
    looks = c.in_ok-unanswered.ensures.before c.in-None.is;
    good = c.ask_first.ensures.good;
  };
  stops = c.run_begun.ensures.done is;
}

pub returns-clause-went : goal.returns-clause-went
returns-clause-went g c = inr (record {
  start = record {
    first = c.in_ok-client.field-0.client;
    looked_at = c.in_ok-client.field-0.looked_at;
    begun = record {
      begins = begins_kept _ _ _ _ _ _ _ _ c.ask_first.ensures.kept c.in_ok-client.ensures.begins;
      noted = λ lawful.
          c.in_ok-unanswered.ensures.noted (c.in_ok-client.ensures.begins.stood lawful).lawful
          (c.in_ok-client.ensures.noted lawful) c.in-None.is;
    };
    between = c.ask_first.new.link;
    looks = c.in_ok-unanswered.ensures.before c.in-None.is;
    good = c.ask_first.ensures.good;
  };
  runs = c.run_begun.ensures.runs;
})
