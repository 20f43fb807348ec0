-- What is kept of exchanges, one after the other: their moments, the texts that were saved, and what a crash may leave.
use Rattle.std.proofs.Common.{◌≡◌, ◌≢◌, ◌≤◌, ◌⊎◌, ℕ, zero, suc, ◌+◌, List, [], ◌∷◌, ◌++◌, map, Result, Ok, Err, OnErr, Some, sym, ap, subst, refl, ◌∙◌, append_assoc, append-nil, inl, inr, arith}
use Rattle.std.proofs.lemmas.List.{map-append}
use Rattle.std.proofs.lemmas.List.Elements.{All-append, All-cons, All-nil}
use Rattle.kmip_client.specs.Clients.{ClientState}
use Rattle.kmip_disk.specs.Views.{DiskView}
use Rattle.kmip_disk.specs.Whole.{IsWritten, LeavesOneOf}
use Rattle.kmip_disk.proofs.ForCallers.{more_saved, none_more, none_saved, one_saved}
use Rattle.kmip_plan.specs.declared.key.Key.{Key}
use Rattle.kmip_runs.specs.declared.stop.Stop.{Stop}
use Rattle.kmip_runs.specs.declared.stop.Stop.TheVariants as stops
use Rattle.kmip_runs.specs.declared.save_fault.SaveFault.{SaveFault}
use Rattle.kmip_runs.specs.Keeping.{MakesLast}
use Rattle.kmip_runs.specs.Lasting.{IsReadBack, IsTextOf, IsTried, Leaves, LeavesTheFile}
use Rattle.kmip_runs.specs.PrivateCarried.{SavesProgress, WritesProgress}
use Rattle.kmip_runs.specs.Saved.{IsWhole, Moment, text_at}

-- a read gives the text of what was known at this moment
abbrev pub HasLast : List Key → Moment → DiskView → Type 0
HasLast keys m disk = (disk.file ≡ Some (text_at keys m)) × IsWritten disk

-- nothing was written
pub leaves_same : (keys : List Key) (honest : Type 0) (ended : Moment) (disk : DiskView) (stop : Stop) (made : ℕ) → disk.lawful
    → (IsWhole (Ok stop) → made ≡ 0) → Leaves keys honest [] ended disk disk (Ok stop) made
leaves_same keys honest ended disk stop made lawful none = record {
  lawful = lawful;
  tried = [];
  is_tried = refl;
  any_moment = none_saved disk lawful;
  read_back = All-nil (IsReadBack keys);
  tried_read_back = All-nil (IsTextOf keys ended);
  still = λ was. was;
  limit = refl;
  same = λ is. refl;
  file = λ holds whole some. absurd (omega (arith, none whole, some));
}

for_keys : (keys : List Key) (c : ClientState) → c.keys ≡ keys → c ≡ record { keys = keys; knowns = c.knowns; next = c.next; batch = c.batch }
for_keys keys c same = ap (λ ks. record { keys = ks; knowns = c.knowns; next = c.next; batch = c.batch }) same

-- the text of what is known was saved
pub leaves_one : (keys : List Key) (honest : Type 0) (c : ClientState) (ended : Moment) (old new : DiskView) (stop : Stop) (done : Unit {0}) → c.keys ≡ keys
    → ended.knowns ≡ c.knowns → SavesProgress old c (Ok done) new → Leaves keys honest (ended ∷ []) ended old new (Ok stop) 1
leaves_one keys honest c ended old new stop done same known w =
    let w : WritesProgress old (record { keys = keys; knowns = ended.knowns; next = c.next; batch = c.batch }) (Ok done) new =
    subst (λ ks. WritesProgress old (record { keys = keys; knowns = ks; next = c.next; batch = c.batch }) (Ok done) new) (sym known)
    (subst (λ state. WritesProgress old state (Ok done) new) (for_keys keys c same) w) in
    record {
      lawful = w.saves.lawful;
      tried = [];
      is_tried = refl;
      any_moment = one_saved old new (text_at keys ended) w.saves.any_moment;
      read_back = All-cons (IsReadBack keys) ended [] w.read_back (All-nil (IsReadBack keys));
      tried_read_back = All-nil (IsTextOf keys ended);
      still = w.saves.still;
      limit = w.saves.limit;
      same = λ none. absurd (omega (arith, none));
      file = λ holds whole some. w.saves.written;
    }

-- or it could not be saved
pub leaves_not : (keys : List Key) (honest : Type 0) (c : ClientState) (ended : Moment) (old new : DiskView) (fault : SaveFault) → c.keys ≡ keys
    → ended.knowns ≡ c.knowns → SavesProgress old c (Err fault) new → Leaves keys honest [] ended old new (Err fault) 1
leaves_not keys honest c ended old new fault same known (inl w) =
    let w : WritesProgress old (record { keys = keys; knowns = ended.knowns; next = c.next; batch = c.batch }) (Err fault) new =
    subst (λ ks. WritesProgress old (record { keys = keys; knowns = ks; next = c.next; batch = c.batch }) (Err fault) new) (sym known)
    (subst (λ state. WritesProgress old state (Err fault) new) (for_keys keys c same) w) in
    record {
      lawful = w.saves.lawful;
      tried = text_at keys ended ∷ [];
      is_tried = inr refl;
      any_moment = one_saved old new (text_at keys ended) w.saves.any_moment;
      read_back = All-nil (IsReadBack keys);
      tried_read_back = All-cons (IsTextOf keys ended) (text_at keys ended) [] (refl, w.read_back) (All-nil (IsTextOf keys ended));
      still = w.saves.still;
      limit = w.saves.limit;
      same = λ none. absurd (omega (arith, none));
      file = λ holds whole some. absurd whole;
    }
leaves_not keys honest c ended old new fault same known (inr w) = record {
  lawful = w.lawful;
  tried = [];
  is_tried = inl refl;
  any_moment = w.any_moment;
  read_back = All-nil (IsReadBack keys);
  tried_read_back = All-nil (IsTextOf keys ended);
  still = w.still;
  limit = w.limit;
  same = λ none. absurd (omega (arith, none));
  file = λ holds whole some. absurd whole;
}

-- so it was saved, or at a fault given to the disk
pub saves_progress : (old new : DiskView) (client : ClientState) (result : Result (Unit {0}) SaveFault) → WritesProgress old client result new → SavesProgress old client result new
saves_progress old new client (Ok done) w = w
saves_progress old new client (Err fault) w = inl w

-- what a read gives after more exchanges, or none
last_then : (keys : List Key) (mid ended : Moment) (b c : DiskView) (m n : ℕ) → 1 ≤ m + n → (1 ≤ m → HasLast keys mid b) → (1 ≤ n → HasLast keys ended c)
    → (n ≡ 0 → text_at keys ended ≡ text_at keys mid) → (n ≡ 0 → c.file ≡ b.file) → (IsWritten b → IsWritten c) → HasLast keys ended c
last_then keys mid ended b c m zero some first second text file still =
    let had = first (omega (arith, some)) in
    (file refl ∙ had.0 ∙ ap Some (sym (text refl)), still had.1)
last_then keys mid ended b c m (suc n) some first second text file still = second (omega arith)

texts_joined : (keys : List Key) (first second : List Moment) (tried more : List (List ℕ)) → tried ≡ []
    → (map (text_at keys) first ++ tried) ++ (map (text_at keys) second ++ more) ≡ map (text_at keys) (first ++ second) ++ more
texts_joined keys first second tried more none =
    ap (λ ts. (map (text_at keys) first ++ ts) ++ (map (text_at keys) second ++ more)) none
    ∙ ap (λ ts. ts ++ (map (text_at keys) second ++ more)) (append-nil (map (text_at keys) first))
    ∙ sym (append_assoc (map (text_at keys) first) (map (text_at keys) second) more)
    ∙ ap (λ ts. ts ++ more) (sym (map-append (text_at keys) first second))

-- more exchanges
pub leaves_then : (keys : List Key) (honest : Type 0) (mid ended : Moment) (a b c : DiskView) (stop : Stop) (result : Result Stop SaveFault) (m n : ℕ)
    (first second : List Moment) → stop ≢ stops.NoMemory
    → (honest → IsWhole result → n ≡ 0 → text_at keys ended ≡ text_at keys mid)
    → Leaves keys honest first mid a b (Ok stop) m → Leaves keys honest second ended b c result n → Leaves keys honest (first ++ second) ended a c result (m + n)
leaves_then keys honest mid ended a b c stop result m n first second memory text before after = record {
  lawful = after.lawful;
  tried = after.tried;
  is_tried = after.is_tried;
  any_moment =
      subst (λ texts. LeavesOneOf a texts c) (texts_joined keys first second before.tried after.tried before.is_tried)
      (more_saved a b c (map (text_at keys) first ++ before.tried) (map (text_at keys) second ++ after.tried) before.lawful before.any_moment after.any_moment);
  read_back = All-append (IsReadBack keys) first second before.read_back after.read_back;
  tried_read_back = after.tried_read_back;
  still = λ was. after.still (before.still was);
  limit = after.limit ∙ before.limit;
  same = λ none. after.same (omega (arith, none)) ∙ before.same (omega (arith, none));
  file = λ holds whole some.
      last_then keys mid ended b c m n some (before.file holds memory) (after.file holds whole) (text holds whole) after.same after.still;
}

-- under another premise that gives the first
pub leaves_from : (keys : List Key) (honest later : Type 0) (moments : List Moment) (ended : Moment) (a b : DiskView) (result : Result Stop SaveFault) (n : ℕ)
    → (honest → later) → Leaves keys later moments ended a b result n → Leaves keys honest moments ended a b result n
leaves_from keys honest later moments ended a b result n gives l = record {
  lawful = l.lawful;
  tried = l.tried;
  is_tried = l.is_tried;
  any_moment = l.any_moment;
  read_back = l.read_back;
  tried_read_back = l.tried_read_back;
  still = l.still;
  limit = l.limit;
  same = l.same;
  file = λ holds. l.file (gives holds);
}

-- the end of the run over the link writes nothing
pub leaves_ended : (keys : List Key) (honest : Type 0) (moments : List Moment) (mid ended : Moment) (a b : DiskView) (result last : Result Stop SaveFault) (n : ℕ)
    → (IsWhole last → IsWhole result) → ((text : List ℕ) (texts : List (List ℕ)) → IsTried result text texts → IsTried last text texts) → mid.knowns ≡ ended.knowns
    → Leaves keys honest moments mid a b result n → Leaves keys honest moments ended a b last n
leaves_ended keys honest moments mid ended a b result last n whole tried same l =
    let l : Leaves keys honest moments (record mid { knowns = ended.knowns }) a b result n = subst (λ ks. Leaves keys honest moments (record mid { knowns = ks }) a b result n) same l in
    record {
      lawful = l.lawful;
      tried = l.tried;
      is_tried = tried (text_at keys ended) l.tried l.is_tried;
      any_moment = l.any_moment;
      read_back = l.read_back;
      tried_read_back = l.tried_read_back;
      still = l.still;
      limit = l.limit;
      same = l.same;
      file = λ holds done. l.file holds (whole done);
    }

-- and to make the last text last adds no text
pub leaves_closed : {E : Type 0} (keys : List Key) (honest : Type 0) (moments : List Moment) (ended : Moment) (a b c : DiskView) (result : Result Stop SaveFault)
    (closed : Result (Unit {0}) E) (n : ℕ) → MakesLast b closed c → Leaves keys honest moments ended a b result n → Leaves keys honest moments ended a c result n
leaves_closed keys honest moments ended a b c result closed n makes l = record {
  lawful = makes.lawful;
  tried = l.tried;
  is_tried = l.is_tried;
  any_moment = none_more a b c (map (text_at keys) moments ++ l.tried) l.lawful l.any_moment makes.any_moment;
  read_back = l.read_back;
  tried_read_back = l.tried_read_back;
  still = λ was. makes.still (l.still was);
  limit = makes.limit ∙ l.limit;
  same = λ none. makes.same ∙ l.same none;
  file = λ holds done some. let had = l.file holds done some in (makes.same ∙ had.0, makes.still had.1);
}

-- once it is closed, a crash leaves the file alone, unless that could not be done
pub file_lasts : {E R : Type 0} (old new : DiskView) (closed : Result (Unit {0}) E) → IsWritten old → OnErr closed R → MakesLast old closed new → LeavesTheFile new ⊎ R
file_lasts old new (Ok done) written failed makes = inl (λ c left. makes.lasts written c left ∙ sym makes.same)
file_lasts old new (Err fault) written failed makes = inr failed
