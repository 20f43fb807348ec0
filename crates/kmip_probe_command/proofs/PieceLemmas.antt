-- A piece that only JSON has, by its member.
use Rattle.std.proofs.Common.{◌≡◌, ℕ, List, ap}
use Rattle.serde_json.specs.Data.{Data}
use Rattle.kmip_report.specs.declared.member.Member.{Member}
use Rattle.kmip_report.specs.declared.piece.Piece.TheVariants.{Noted}
use Rattle.kmip_report.specs.Members.{pair_of}
use Rattle.kmip_report.specs.PieceViews.{piece_of}
use Rattle.kmip_report.specs.Pieces.{noted}

pub noted_as : (m : Member) {name : List ℕ} {value : Data} → pair_of m ≡ (name, value) → piece_of (Noted m) ≡ noted name value
noted_as m is = ap (λ (p : List ℕ × Data). noted p.0 p.1) is
