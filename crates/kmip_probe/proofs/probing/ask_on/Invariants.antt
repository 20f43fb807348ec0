-- As many questions as turns were asked, each as it should be.
use Rattle.std.proofs.Common.{◌≡◌, ◌≤◌, ◌+◌, ◌++◌, List, length}
use Rattle.std.specs.List.{All}
use Rattle.kmip_protocol.specs.Past.{Names}
use Rattle.kmip_probe.specs.Answers.{IsLawful}
use Rattle.kmip_probe.specs.Inquiries.{most_messages}
use Rattle.kmip_probe.specs.Putting.{AsksOn, SendsOnce}
use Rattle.kmip_probe.specs.TwoObjects.{AreServed}
use Rattle.kmip_probe.specs.declared.answer.Answer.{Answer}
use Rattle.kmip_probe.proofs.probing.ask_on.Given as goal

abbrev pub invariant-loop : goal.invariant-loop
invariant-loop g l = record {
  count : length l.answers.items ≡ l.counter;
  lawful : All IsLawful l.answers.items;
  onward : (more : List Answer) × (l.answers.items ≡ l.initial.answers.items ++ more);
  asked : (names : Names) → (g.L.Link.seen l.initial.link).honest names
      → (g.L.Link.seen l.link).honest names × AsksOn l.prefix l.initial.answers.items l.answers.items (g.L.Link.seen l.initial.link).past (g.L.Link.seen l.link).past;
  few : (names : Names) → (g.L.Link.seen l.initial.link).honest names
      → length (g.L.Link.seen l.link).past.sent + most_messages (length l.initial.answers.items)
      ≤ length (g.L.Link.seen l.initial.link).past.sent + most_messages l.counter;
  once : (names : Names) → (g.L.Link.seen l.initial.link).calm names
      → (g.L.Link.seen l.link).calm names × SendsOnce l.prefix l.initial.answers.items l.answers.items (g.L.Link.seen l.initial.link).past (g.L.Link.seen l.link).past;
  served : (names : Names) → (g.L.Link.seen l.initial.link).calm names → AreServed l.prefix l.initial.answers.items (g.L.Link.seen l.initial.link).past
      → (g.L.Link.seen l.link).calm names × AreServed l.prefix l.answers.items (g.L.Link.seen l.link).past;
}
