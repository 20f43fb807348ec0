-- By the lemma of each.
use Rattle.kmip_messages.proofs.ByteLemmas.{parts_are_few, parts_fit, read_is_said, requests_of_parts, said_is_read}
use Rattle.kmip_messages.proofs.LawLemmas.{
  replies_are_spelled,
  replies_fit,
  requests_are_no_replies,
  requests_are_spelled,
  written_are_asked,
  written_are_said,
}
use Rattle.kmip_messages.proofs.laws.the_laws_of_messages_hold.Goals as goal

pub returns : goal.returns
returns c = record {
  few_questions = parts_are_few;
  questions_fit = parts_fit;
  requests = requests_of_parts;
  requests_spelled = requests_are_spelled;
  written_asked = written_are_asked;
  said = read_is_said;
  read = said_is_read;
  replies_fit = replies_fit;
  replies_spelled = replies_are_spelled;
  written_said = written_are_said;
  one_kind = requests_are_no_replies;
}
