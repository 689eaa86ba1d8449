use Rattle.mc_json.proofs.SentVifLemmas.{length-sent_vifs}
use Rattle.mc_json.proofs.laws.each_copy_of_an_event_has_its_vif.Goals as goal

-- A vif is listed for each outgoing vif that the packet's TTL passes, and a copy is made by each of these.
pub returns : goal.returns
returns c = length-sent_vifs
