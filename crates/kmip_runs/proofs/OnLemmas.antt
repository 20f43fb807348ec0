-- What goes on goes on over any number of steps.
use Rattle.std.proofs.Common.{List}
use Rattle.kmip_client.specs.Laws.{OnwardToItself, OnwardTwice}
use Rattle.kmip_plan.specs.declared.key.Key.{Key}
use Rattle.kmip_protocol.specs.Amid.{seen_by_others}
use Rattle.kmip_protocol.specs.AmidLaws.{NothingPasses, PassingJoins}
use Rattle.kmip_protocol.specs.Past.{Past}
use Rattle.kmip_runs.specs.Driving.{WentOn}

-- where nothing is done
pub on_nowhere : OnwardToItself → NothingPasses → (keys : List Key) (p : Past) → WentOn keys p p
on_nowhere itself nothing keys p = record {
  onward = itself keys p.objects;
  mirrored = λ image. image;
  passed = nothing keys (seen_by_others p);
}

-- one after the other
pub on_then : OnwardTwice → PassingJoins → (keys : List Key) (old between new : Past) → WentOn keys old between → WentOn keys between new → WentOn keys old new
on_then twice joins keys old between new first second = record {
  onward = twice keys old.objects between.objects new.objects first.onward second.onward;
  mirrored = λ image. second.mirrored (first.mirrored image);
  passed = joins keys (seen_by_others old) (seen_by_others between) (seen_by_others new) first.passed second.passed;
}
