-- The questions that are no refusals are counted, and these are the requests.
use Rattle.std.proofs.Common.{rules, tests, is_ok, ◌∙◌}
use Rattle.std.proofs.lemmas.Iterator.{YieldsList-from_slice}
use Rattle.std.proofs.lemmas.Iterator.Consumers.{YieldsList-from_filter, count_from_yields_List}
use Rattle.kmip_scripted.proofs.RequestLemmas.{as_many}
use Rattle.kmip_scripted.proofs.counts.count_requests.Goals as goal

pub returns : goal.returns
returns c =
    count_from_yields_List c.filter.result _ c.count.ensures.ran
    (YieldsList-from_filter _ is_ok (YieldsList-from_slice c.args.questions.now (cc)) c.filter.ensures.closure (λ x b q k. search (rules, tests)))
    ∙ as_many c.args.questions.now
