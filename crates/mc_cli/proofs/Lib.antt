mod ArgumentLemmas
mod AuditLemmas
mod ClapLemmas
mod CommandLemmas
mod DraftLemmas
mod FirstWordLemmas
