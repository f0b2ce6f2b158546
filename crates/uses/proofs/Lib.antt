mod Digests
mod Histories
mod Replicas
mod SentDeltas
