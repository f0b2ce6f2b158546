use Rattle.bitmap_session.proofs.session.Session.serve.Goals as goal

pub returns-in-Push : goal.returns-in-Push
returns-in-Push g c = rw c.in-Push.is c.push.ensures

pub returns-in-PushByte : goal.returns-in-PushByte
returns-in-PushByte g c = rw c.in-PushByte.is c.push_byte.ensures

pub returns-in-PushChunk : goal.returns-in-PushChunk
returns-in-PushChunk g c = rw c.in-PushChunk.is c.push_chunk.ensures

pub returns-in-Pop : goal.returns-in-Pop
returns-in-Pop g c = rw c.in-Pop.is c.pop.ensures

pub returns-in-Set : goal.returns-in-Set
returns-in-Set g c = rw c.in-Set.is c.set.ensures

pub returns-in-Prune : goal.returns-in-Prune
returns-in-Prune g c = rw c.in-Prune.is c.prune.ensures

pub returns-in-DropBefore : goal.returns-in-DropBefore
returns-in-DropBefore g c = rw c.in-DropBefore.is c.drop_before.ensures

pub returns-in-Clear : goal.returns-in-Clear
returns-in-Clear g c = rw c.in-Clear.is c.clear.ensures

pub returns-in-Len : goal.returns-in-Len
returns-in-Len g c = rw c.in-Len.is c.len.ensures

pub returns-in-PrunedChunks : goal.returns-in-PrunedChunks
returns-in-PrunedChunks g c = rw c.in-PrunedChunks.is c.pruned_chunks.ensures

pub returns-in-Get : goal.returns-in-Get
returns-in-Get g c = rw c.in-Get.is c.get.ensures

pub returns-in-Chunk : goal.returns-in-Chunk
returns-in-Chunk g c = rw c.in-Chunk.is c.chunk.ensures

pub returns-in-Ones : goal.returns-in-Ones
returns-in-Ones g c = rw c.in-Ones.is c.ones.ensures

pub returns-in-Encode : goal.returns-in-Encode
returns-in-Encode g c = rw c.in-Encode.is c.encode.ensures

pub returns-in-At : goal.returns-in-At
returns-in-At g c = rw c.in-At.is c.snapshot.ensures

pub returns-in-OnesAt : goal.returns-in-OnesAt
returns-in-OnesAt g c = rw c.in-OnesAt.is c.ones_at.ensures

pub returns-in-EncodeAt : goal.returns-in-EncodeAt
returns-in-EncodeAt g c = rw c.in-EncodeAt.is c.encode_at.ensures

pub returns-in-Decode : goal.returns-in-Decode
returns-in-Decode g c = rw c.in-Decode.is c.decode.ensures

pub returns-in-Commits : goal.returns-in-Commits
returns-in-Commits g c = rw c.in-Commits.is c.kept_numbers.ensures

pub returns-in-Exists : goal.returns-in-Exists
returns-in-Exists g c = rw c.in-Exists.is c.exists.ensures

pub returns-in-Latest : goal.returns-in-Latest
returns-in-Latest g c = rw c.in-Latest.is c.latest.ensures

pub returns-in-Earliest : goal.returns-in-Earliest
returns-in-Earliest g c = rw c.in-Earliest.is c.earliest.ensures

pub returns-in-Entries : goal.returns-in-Entries
returns-in-Entries g c = rw c.in-Entries.is c.entries.ensures
