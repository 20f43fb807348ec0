-- An exchange of its own, and then a turn of the other client.
use Rattle.std.proofs.Common.{Err, Ok, option_map, refl, rules, subst}
use Rattle.kmip_plan.specs.Plans.{IsLawful}
use Rattle.kmip_company.specs.Sharing.{Sharing, past_of}
use Rattle.kmip_protocol.specs.Past.{is_planned}
use Rattle.kmip_protocol.specs.declared.link_fault.LinkFault.TheVariants.{NoMemory}
use Rattle.kmip_scripted.specs.Scenes.{past_in}
use Rattle.kmip_company.proofs.SharedLemmas.{both_passed, noted_amid, shared_once, shares, together_on, unnoted_amid}
use Rattle.kmip_company.proofs.shared.SharedLink.exchange.Goals as goal

-- its own exchange was not made
pub returns-in_default-clause-made : goal.returns-in_default-clause-made
returns-in_default-clause-made g c = record {
  honestly = search rules;
  amid = λ keys together sound just.
      let old = c.args.self.now in
      let new = c.talk.new.self in
      let done = c.in_default.ensures.unmade keys in
      let kept = c.the_laws_amid_others_hold.ensures.exchanges keys (past_of old) (past_of new) c.args.request.now
      (Err NoMemory) sound just done in
      let lawful = subst IsLawful together.keys_are
      (subst (λ (s : Sharing). IsLawful s.other.keys) c.self.view_is c.a_client_has_a_lawful_plan.ensures) in (
        together_on c.the_laws_of_clients_hold.ensures.known_for_good keys old new lawful kept.1 c.talk.ensures.other
            together,
        done,
      );
  calmly = search rules;
  counted = search rules;
  io = search rules;
  spent = search rules;
  followed = λ memory. absurd (memory refl);
}

-- the other client had no memory
pub returns-in_default-let_the_other_ask-clause-made :
    goal.returns-in_default-let_the_other_ask-clause-made
returns-in_default-let_the_other_ask-clause-made g c = record {
  honestly = search rules;
  amid = λ keys together sound just.
      let old = c.args.self.now in
      let mid = c.talk.new.self in
      let between = c.let_the_other_ask.new.self in
      let request = c.args.request.now in
      let answer = option_map (λ v. v.items) c.in-Ok.answer in
      let lawful = subst IsLawful together.keys_are
      (subst (λ (s : Sharing). IsLawful s.other.keys) c.self.view_is c.a_client_has_a_lawful_plan.ensures) in
      let both =
      both_passed c.the_laws_of_clients_hold.ensures.known_for_good c.the_laws_amid_others_hold.ensures.exchanges
      c.the_laws_amid_others_hold.ensures.blind
      c.the_laws_amid_others_hold.ensures.joins keys old mid between request answer lawful together sound just
      (c.the_laws_amid_others_hold.ensures.exchanges_amid keys (past_in old.scene) (past_in mid.scene) request
      (Ok answer) (c.in-Ok.ensures.exchanged (is_planned keys)))
      c.talk.ensures.other c.talk.ensures.sent c.talk.ensures.handed (c.let_the_other_ask.ensures.together keys)
      (c.let_the_other_ask.ensures.passed keys) in
      unnoted_amid keys old between between request answer refl both;
  calmly = search rules;
  counted = search rules;
  io = search rules;
  spent = search rules;
  followed = λ memory. absurd (memory refl);
}

-- there was no memory to note it
pub returns-in-Err-clause-made : goal.returns-in-Err-clause-made
returns-in-Err-clause-made g c = record {
  honestly = search rules;
  amid = λ keys together sound just.
      let old = c.args.self.now in
      let mid = c.talk.new.self in
      let between = c.let_the_other_ask.new.self in
      let request = c.args.request.now in
      let answer = option_map (λ v. v.items) c.in-Ok.answer in
      let lawful = subst IsLawful together.keys_are
      (subst (λ (s : Sharing). IsLawful s.other.keys) c.self.view_is c.a_client_has_a_lawful_plan.ensures) in
      let both =
      both_passed c.the_laws_of_clients_hold.ensures.known_for_good c.the_laws_amid_others_hold.ensures.exchanges
      c.the_laws_amid_others_hold.ensures.blind
      c.the_laws_amid_others_hold.ensures.joins keys old mid between request answer lawful together sound just
      (c.the_laws_amid_others_hold.ensures.exchanges_amid keys (past_in old.scene) (past_in mid.scene) request
      (Ok answer) (c.in-Ok.ensures.exchanged (is_planned keys)))
      c.talk.ensures.other c.talk.ensures.sent c.talk.ensures.handed (c.let_the_other_ask.ensures.together keys)
      (c.let_the_other_ask.ensures.passed keys) in
      unnoted_amid keys old between c.note.new.self request answer c.in-Err.ensures.same both;
  calmly = search rules;
  counted = search rules;
  io = search rules;
  spent = search rules;
  followed = λ memory. absurd (memory refl);
}

-- both were made
pub returns-in-Ok-note-clause-made : goal.returns-in-Ok-note-clause-made
returns-in-Ok-note-clause-made g c = record {
  honestly = search rules;
  amid = λ keys together sound just.
      let old = c.args.self.now in
      let mid = c.talk.new.self in
      let between = c.let_the_other_ask.new.self in
      let request = c.args.request.now in
      let answer = option_map (λ v. v.items) c.in-Ok.answer in
      let lawful = subst IsLawful together.keys_are
      (subst (λ (s : Sharing). IsLawful s.other.keys) c.self.view_is c.a_client_has_a_lawful_plan.ensures) in
      let both =
      both_passed c.the_laws_of_clients_hold.ensures.known_for_good c.the_laws_amid_others_hold.ensures.exchanges
      c.the_laws_amid_others_hold.ensures.blind
      c.the_laws_amid_others_hold.ensures.joins keys old mid between request answer lawful together sound just
      (c.the_laws_amid_others_hold.ensures.exchanges_amid keys (past_in old.scene) (past_in mid.scene) request
      (Ok answer) (c.in-Ok.ensures.exchanged (is_planned keys)))
      c.talk.ensures.other c.talk.ensures.sent c.talk.ensures.handed (c.let_the_other_ask.ensures.together keys)
      (c.let_the_other_ask.ensures.passed keys) in
      noted_amid keys old between c.note.new.self request answer c.in-Ok-note.ensures.noted both;
  calmly = search rules;
  counted = search rules;
  io = search rules;
  spent = search rules;
  followed = λ memory.
      let old = c.args.self.now in
      let request = c.args.request.now in
      let answer = option_map (λ v. v.items) c.in-Ok.answer in
      shared_once old c.note.new.self request answer
      (shares old c.talk.new.self c.let_the_other_ask.new.self c.note.new.self request answer
      c.in-Ok.ensures.exchanged c.talk.ensures.other c.talk.ensures.sent
      c.talk.ensures.handed c.in-Ok-let_the_other_ask.ensures.turn c.let_the_other_ask.ensures.sent
      c.let_the_other_ask.ensures.handed c.in-Ok-note.ensures.noted);
}

pub returns-in-Ok-note-clause-shared : goal.returns-in-Ok-note-clause-shared
returns-in-Ok-note-clause-shared g c =
    shares c.args.self.now c.talk.new.self c.let_the_other_ask.new.self c.note.new.self c.args.request.now
    (option_map (λ v. v.items) c.in-Ok.answer)
    c.in-Ok.ensures.exchanged c.talk.ensures.other c.talk.ensures.sent c.talk.ensures.handed
    c.in-Ok-let_the_other_ask.ensures.turn
    c.let_the_other_ask.ensures.sent c.let_the_other_ask.ensures.handed c.in-Ok-note.ensures.noted
