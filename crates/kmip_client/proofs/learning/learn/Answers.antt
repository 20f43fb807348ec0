-- Case by case: what the function that is called learns is what the outcome teaches.
use Rattle.std.proofs.Common.{◌∙◌, refl, sym}
use Rattle.kmip_client.proofs.learning.learn.Goals as goal

pub returns-in-Failed : goal.returns-in-Failed
returns-in-Failed c = record { ok = rw (c.in-Failed.is, c.lose.ensures) refl; err = tt; same = tt }

pub returns-in-Created : goal.returns-in-Created
returns-in-Created c =
    let told = c.learn_created.ensures in
    record { ok = rw c.in-Created.is told.ok; err = rw c.in-Created.is told.err; same = told.same }

pub returns-in-Located : goal.returns-in-Located
returns-in-Located c =
    let told = c.learn_located.ensures in
    record { ok = rw c.in-Located.is told.ok; err = rw c.in-Located.is told.err; same = told.same }

pub returns-in-Activated : goal.returns-in-Activated
returns-in-Activated c =
    let told = c.learn_step.ensures in
    record { ok = rw c.in-Activated.is told.ok; err = rw c.in-Activated.is told.err; same = told.same }

pub returns-in-Revoked : goal.returns-in-Revoked
returns-in-Revoked c =
    let told = c.learn_step-in-Revoked.ensures in
    record { ok = rw c.in-Revoked.is told.ok; err = rw c.in-Revoked.is told.err; same = told.same }

pub returns-in-Destroyed : goal.returns-in-Destroyed
returns-in-Destroyed c =
    let told = c.learn_step-in-Destroyed.ensures in
    record { ok = rw c.in-Destroyed.is told.ok; err = rw c.in-Destroyed.is told.err; same = told.same }

pub returns-then-not-is_known : goal.returns-then-not-is_known
returns-then-not-is_known c =
    let other = sym c.is_known.ensures ∙ c.if-not-is_known.true in
    record { ok = tt; err = rw (c.in-Attributes.is, other) refl; same = refl }

pub returns-else-not-is_known : goal.returns-else-not-is_known
returns-else-not-is_known c =
    let known = sym c.is_known.ensures ∙ c.if-not-is_known.false in
    let told = c.learn_attributes.ensures in
    record { ok = rw (c.in-Attributes.is, known) told.ok; err = rw (c.in-Attributes.is, known) told.err; same = told.same }
