-- An item is shown, and no line is refused, where no bytes stand after it.
use Rattle.std.proofs.Common.{eq-eqb, refl}
use Rattle.kmip_message_commands.specs.Showing.{is_no_item, show_text}
use Rattle.kmip_message_commands.proofs.showing.show_message.Goals as goal

pub returns-then-size-message-clause-text : goal.returns-then-size-message-clause-text
unfolding show_text
returns-then-size-message-clause-text c = rw (c.in_ok-push_item-in-Ok.ensures, c.in-Ok.ensures.exact, eq-eqb _ _ c.if-size-message.true) refl

pub returns-then-size-message-clause-refused : goal.returns-then-size-message-clause-refused
unfolding is_no_item
returns-then-size-message-clause-refused c = rw (c.in-Ok.ensures.exact, eq-eqb _ _ c.if-size-message.true) refl
