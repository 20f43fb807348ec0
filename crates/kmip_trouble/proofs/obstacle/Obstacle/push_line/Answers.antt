-- The line of each obstacle.
use Rattle.std.proofs.Common.{ℕ, List, codes, Some, None, refl, ap, ap₂}
use Rattle.kmip_report.specs.FaultLines.{fault_pieces}
use Rattle.kmip_report.specs.Pieces.{Piece}
use Rattle.kmip_plan_report.specs.Refusals.{Site, progress_refusal, site}
use Rattle.kmip_trouble.specs.ObstacleLines.{fault_at, obstacle_line, other_attributes_line, too_long_line}
use Rattle.kmip_trouble.specs.ObstacleLines.{unreadable_line}
use Rattle.kmip_trouble.specs.Words.{cannot_word}
use Rattle.kmip_trouble.specs.declared.obstacle.Obstacle.TheVariants as obstacles
use Rattle.kmip_trouble.proofs.ObstacleLemmas.{told, told_why}
use Rattle.kmip_trouble.proofs.obstacle.Obstacle.push_line.Goals as goal

pub returns-in-Cannot : goal.returns-in-Cannot
returns-in-Cannot c =
    rw c.in-Cannot.is
    (told_why c.push_error.result c.args.form c.args.text.now.items c.push_error.new.text.items
    (obstacle_line (obstacles.Cannot c.in-Cannot.cannot c.in-Cannot.place c.in-Cannot.error))
    (cannot_word c.in-Cannot.cannot) _ _ c.given.ensures (λ why. refl) c.push_error.ensures)

pub returns-in-TooLong : goal.returns-in-TooLong
returns-in-TooLong c =
    rw c.in-TooLong.is
    (told c.push_too_long.result c.args.form c.args.text.now.items c.push_too_long.new.text.items
    (obstacles.TooLong c.in-TooLong.place c.in-TooLong.most_bytes) _ (site None None)
    (ap (λ (path : List ℕ). too_long_line c.in-TooLong.most_bytes path) c.given-in-TooLong.ensures)
    c.push_too_long.ensures)

pub returns-in-NoText : goal.returns-in-NoText
returns-in-NoText c =
    rw c.in-NoText.is
    (told c.push_unreadable.result c.args.form c.args.text.now.items c.push_unreadable.new.text.items
    (obstacles.NoText c.in-NoText.place) _ (site None None)
    (ap (λ (path : List ℕ). unreadable_line path (codes "it is not UTF-8 text")) c.given-in-NoText.ensures)
    c.push_unreadable.ensures)

pub returns-in-NoOrigin : goal.returns-in-NoOrigin
returns-in-NoOrigin c =
    rw c.in-NoOrigin.is
    (told c.push_unreadable-in-NoOrigin.result c.args.form c.args.text.now.items
    c.push_unreadable-in-NoOrigin.new.text.items (obstacles.NoOrigin c.in-NoOrigin.place) _ (site None None)
    (ap (λ (path : List ℕ). unreadable_line path (codes "it does not say where a progress was saved"))
    c.given-in-NoOrigin.ensures) c.push_unreadable-in-NoOrigin.ensures)

pub returns-in-InUse : goal.returns-in-InUse
returns-in-InUse c =
    rw c.in-InUse.is
    (told c.push_at.result c.args.form c.args.text.now.items c.push_at.new.text.items
    (obstacles.InUse c.in-InUse.path) _ (site None None)
    (ap (λ (path : List ℕ). fault_at (codes "progress in use") (codes ": ") path None)
    c.as_str-in-InUse.ensures.value) c.push_at.ensures)

pub returns-in-NoPort : goal.returns-in-NoPort
returns-in-NoPort c =
    rw c.in-NoPort.is (told c.push_no_port.result c.args.form c.args.text.now.items c.push_no_port.new.text.items
    obstacles.NoPort _ (site None None) refl c.push_no_port.ensures)

pub returns-in-AnotherServer : goal.returns-in-AnotherServer
returns-in-AnotherServer c =
    rw c.in-AnotherServer.is (told c.push_line.result c.args.form c.args.text.now.items c.push_line.new.text.items
    (obstacles.AnotherServer c.in-AnotherServer.server) _ (site None None) refl c.push_line.ensures)

pub returns-in-Contradicted : goal.returns-in-Contradicted
returns-in-Contradicted c =
    rw c.in-Contradicted.is
    (told c.push_line-in-Contradicted.result c.args.form c.args.text.now.items
    c.push_line-in-Contradicted.new.text.items (obstacles.Contradicted c.in-Contradicted.contradiction) _
    (site None None) refl c.push_line-in-Contradicted.ensures)

pub returns-in-NoProgress : goal.returns-in-NoProgress
returns-in-NoProgress c =
    rw c.in-NoProgress.is
    (told c.push_progress_refusal.result c.args.form c.args.text.now.items c.push_progress_refusal.new.text.items
    (obstacles.NoProgress c.in-NoProgress.path c.in-NoProgress.fault) _ (site None None)
    (ap (λ (path : List ℕ). progress_refusal c.in-NoProgress.fault (Some path) None)
    c.as_str-in-NoProgress.ensures.value) c.push_progress_refusal.ensures)

pub returns-in-OtherAttributes : goal.returns-in-OtherAttributes
returns-in-OtherAttributes c =
    rw c.in-OtherAttributes.is
    (told c.push_other_attributes.result c.args.form c.args.text.now.items c.push_other_attributes.new.text.items
    (obstacles.OtherAttributes c.in-OtherAttributes.path c.in-OtherAttributes.difference) _ (site None None)
    (ap₂ other_attributes_line c.as_str-in-OtherAttributes.ensures.value c.as_str-in-OtherAttributes-2.ensures.value)
    c.push_other_attributes.ensures)
