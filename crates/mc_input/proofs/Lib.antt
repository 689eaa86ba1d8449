mod BundleDenotesInputLemmas
mod BundleContentsLemmas
mod CacheLemmas
mod ContentsLemmas
mod ReadRestLemmas
mod InputCounts
mod FaultLemmas
mod FilesFeedLemmas
mod FilesLemmas
mod FilesMeansLemmas
mod HeaderLemmas
mod FilesDenoteInputLemmas
pub mod UniqueDomain
mod OneByOneLemmas
mod PartResultLemmas
mod ExcludedLemmas
mod MeansLemmas
mod StreamLemmas
mod SummaryLemmas
mod WalkLemmas
mod HasNoVifOrRowLemmas
mod UniqueInput
pub mod ExcludedPerFlowLemmas
mod ReadLemmas
mod ReadingLemmas
mod FileFaultLemmas
mod JudgedFilesLemmas
mod RefusedLemmas
mod SourceOfPartsLemmas
mod CollectedPartLemmas
mod FinishLemmas
mod FolderLemmas
mod ListsOfFilesLemmas
mod FileAgainLemmas
mod StateLemmas
pub mod WithCertificate
pub mod AskedOfFilesLemmas
