-- A look of which the result holds a list in some form is one of which the result is the list.
use Rattle.std.proofs.Common.{ℕ, List, Ok, Err}
use Rattle.kmip_ttlv.specs.declared.no_memory.NoMemory.{NoMemory}
use Rattle.kmip_plan.specs.declared.key.Key.{Key}
use Rattle.kmip_protocol.specs.Past.{Names}
use Rattle.kmip_protocol.specs.Seen.{Seen}
use Rattle.kmip_look.specs.Looks.{Looks, LooksCalmly, LooksHonestly}
use Rattle.kmip_look.specs.declared.looked.Looked.{Looked}

honest_list : {A : Type 0} (items : A → List Looked) (names : Names) (keys : List Key) (mark : List ℕ) (old : Seen) (v : A) (new : Seen)
    → LooksHonestly items names keys mark old (Ok v) new → LooksHonestly (λ lookeds. lookeds) names keys mark old (Ok (items v)) new
honest_list items names keys mark old v new h = record { still = h.still; asks_looks = h.asks_looks; since = h.since }

honest_lack : {A : Type 0} (items : A → List Looked) (names : Names) (keys : List Key) (mark : List ℕ) (old : Seen) (want : NoMemory) (new : Seen)
    → LooksHonestly items names keys mark old (Err want) new → LooksHonestly {A = List Looked} (λ lookeds. lookeds) names keys mark old (Err want) new
honest_lack items names keys mark old want new h = record { still = h.still; asks_looks = h.asks_looks; since = λ fresh. tt }

calm_list : {A : Type 0} (items : A → List Looked) (names : Names) (keys : List Key) (old : Seen) (v : A) (new : Seen)
    → LooksCalmly items names keys old (Ok v) new → LooksCalmly (λ lookeds. lookeds) names keys old (Ok (items v)) new
calm_list items names keys old v new h = record { still = h.still; objects = h.objects; effects = h.effects; stand = h.stand }

calm_lack : {A : Type 0} (items : A → List Looked) (names : Names) (keys : List Key) (old : Seen) (want : NoMemory) (new : Seen)
    → LooksCalmly items names keys old (Err want) new → LooksCalmly {A = List Looked} (λ lookeds. lookeds) names keys old (Err want) new
calm_lack items names keys old want new h = record { still = h.still; objects = tt; effects = tt; stand = λ distinct. tt }

pub looks_list : {A : Type 0} (items : A → List Looked) (keys : List Key) (mark : List ℕ) (old : Seen) (v : A) (new : Seen)
    → Looks items keys mark old (Ok v) new → Looks (λ lookeds. lookeds) keys mark old (Ok (items v)) new
looks_list items keys mark old v new l = record {
  as_many = l.as_many;
  honestly = λ names honest. honest_list items names keys mark old v new (l.honestly names honest);
  calmly = λ names calm. calm_list items names keys old v new (l.calmly names calm);
}

pub looks_lack : {A : Type 0} (items : A → List Looked) (keys : List Key) (mark : List ℕ) (old : Seen) (want : NoMemory) (new : Seen)
    → Looks items keys mark old (Err want) new → Looks {A = List Looked} (λ lookeds. lookeds) keys mark old (Err want) new
looks_lack items keys mark old want new l = record {
  as_many = tt;
  honestly = λ names honest. honest_lack items names keys mark old want new (l.honestly names honest);
  calmly = λ names calm. calm_lack items names keys old want new (l.calmly names calm);
}
