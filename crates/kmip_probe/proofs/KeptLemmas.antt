-- What a server of the profile answers keeps every premise.
use Rattle.std.proofs.Common.{◌≡◌, ℕ, nat_eq, true, List, refl}
use Rattle.std.specs.Cmp.Lexicographic.{pointwise}
use Rattle.std.proofs.lemmas.Slice.Eq.{bytes_eq-Decides}
use Rattle.kmip_probe.specs.Inquiries.{name_of}
use Rattle.kmip_probe.specs.Laws.{ProfileKeepsAll}
use Rattle.kmip_probe.specs.declared.which.Which.TheVariants.{First}

same : (text : List ℕ) → pointwise nat_eq text text ≡ true
same text = (bytes_eq-Decides text text).1 refl

pub all_kept : ProfileKeepsAll
all_kept prefix first second = record {
  unique = rw (same first) refl;
  used = rw (same first) refl;
  once = refl;
  active = refl;
  found = rw (same first) refl;
  destroyed = rw (same first) refl;
  told = rw (same (name_of First prefix)) refl;
  echoed = refl;
  reasons = refl;
}
