-- A run that begins with nothing, over a link over which nothing has happened.
use Rattle.std.proofs.Common.{◌≡◌, ◌≤◌, ℕ, zero, suc, List, [], ◌∷◌, map, Option, Some, None, Result, Ok, Err, refl, sym, ap, subst, ◌∙◌, arith}
use Rattle.kmip_client.specs.Clients.{ClientState, fresh, identifier_at}
use Rattle.kmip_client.specs.Held.{Held}
use Rattle.kmip_client.specs.Knowledge.{fresh_knowledge}
use Rattle.kmip_client.specs.declared.knowledge.Knowledge.{Knowledge}
use Rattle.kmip_choices.specs.declared.trust.Trust.{Trust}
use Rattle.kmip_choices.specs.declared.trust.Trust.TheVariants.{Afresh, Believe, Checked}
use Rattle.kmip_objects.specs.Objects.{Object}
use Rattle.kmip_plan.specs.declared.key.Key.{Key}
use Rattle.kmip_progress.specs.declared.progress_fault.ProgressFault.{ProgressFault}
use Rattle.kmip_protocol.specs.Seen.{Seen}
use Rattle.kmip_run_command.specs.RunEnds.{begin_knowns}
use Rattle.kmip_desk.specs.Beginnings.{progress_for}
use Rattle.kmip_desk.specs.DeskRuns.{LooksBefore}

fresh_held : (objects : List Object) (keys : List Key) → Held objects keys (map (λ key. fresh_knowledge) keys)
fresh_held objects [] = tt
fresh_held objects (key ∷ keys) = (
  record {
    holds = record {
      uid_true = λ uid is. absurd cc;
      done_true = omega arith;
      has_identifier = λ some. absurd (omega (arith, some));
    };
    no_clash = refl;
    suits = refl;
  },
  fresh_held objects keys,
)

none_for : (trust : Trust) → progress_for trust None ≡ None
none_for Afresh = refl
none_for Checked = refl
none_for Believe = refl

abbrev value_or : {A E : Type 0} → A → Result A E → A
value_or other (Ok value) = value
value_or other (Err fault) = other

-- what is known without a progress holds of any objects
pub held_of_none : (objects : List Object) (keys : List Key) (knowns : List Knowledge) (trust : Trust) (found : Option (List ℕ))
    → found ≡ None → begin_knowns keys (progress_for trust found) ≡ Ok knowns → Held objects keys knowns
held_of_none objects keys knowns trust found none begins =
    let saved : progress_for trust found ≡ None = ap (progress_for trust) none ∙ none_for trust in
    let fresh : map (λ key. fresh_knowledge) keys ≡ knowns =
    ap (value_or knowns) (sym (ap (begin_knowns keys) saved) ∙ begins) in
    subst (Held objects keys) fresh (fresh_held objects keys)
