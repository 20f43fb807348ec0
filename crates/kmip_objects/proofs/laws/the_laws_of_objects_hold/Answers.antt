-- By the lemma of each.
use Rattle.kmip_objects.proofs.ObjectLemmas.{
  named_is_one,
  identified_is_one,
  none_is_named,
  none_is_identified,
  one_is_named,
  one_is_identified,
  named_is_identified,
  identified_is_named,
  named_is_all,
  identified_is_all,
  named_before,
  named_among,
  identified_before,
  identified_among,
  names_more,
  uids_more,
  own_is_restated,
  other_is_kept,
  restated_keeps,
  names_are_kept,
  uids_are_kept,
  named_is_restated,
  identified_is_restated,
  names_stay_distinct,
  uids_stay_distinct,
}
use Rattle.kmip_objects.proofs.laws.the_laws_of_objects_hold.Goals as goal

pub returns : goal.returns
returns c = record {
  named = named_is_one;
  identified = identified_is_one;
  none_named = none_is_named;
  none_identified = none_is_identified;
  one_named = one_is_named;
  one_identified = one_is_identified;
  by_identifier = named_is_identified;
  by_name = identified_is_named;
  all_named = named_is_all;
  all_identified = identified_is_all;
  named_before = named_before;
  named_among = named_among;
  identified_before = identified_before;
  identified_among = identified_among;
  one_more_name = names_more;
  one_more_identifier = uids_more;
  own_restated = own_is_restated;
  other_kept = other_is_kept;
  restated_keeps = restated_keeps;
  names_kept = names_are_kept;
  identifiers_kept = uids_are_kept;
  named_restated = named_is_restated;
  identified_restated = identified_is_restated;
  names_stay = names_stay_distinct;
  identifiers_stay = uids_stay_distinct;
}
